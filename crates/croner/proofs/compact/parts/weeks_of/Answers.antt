use Rattle.std.proofs.Common.{◌≡◌, ℕ, zero, suc, ◌<◌, ◌^◌, [], ◌∷◌, slice_index, arith}
use Rattle.croner_base.specs.Field.{is_marked}
use Rattle.croner_pattern.specs.Words.{has_bit}
use Rattle.croner.proofs.compact.parts.weeks_of.Goals as goal

-- what holds of each of seven rows holds of the row at a place
seven : (a b c d e f g : ℕ) (Shows : ℕ → ℕ → Type 0) → Shows 0 a → Shows 1 b → Shows 2 c → Shows 3 d → Shows 4 e → Shows 5 f → Shows 6 g
    → (k : ℕ) → k < 7 → Shows k (slice_index (a ∷ b ∷ c ∷ d ∷ e ∷ f ∷ g ∷ []) k)
seven a b c d e f g Shows p q r s t u v zero h = p
seven a b c d e f g Shows p q r s t u v (suc zero) h = q
seven a b c d e f g Shows p q r s t u v (suc (suc zero)) h = r
seven a b c d e f g Shows p q r s t u v (suc (suc (suc zero))) h = s
seven a b c d e f g Shows p q r s t u v (suc (suc (suc (suc zero)))) h = t
seven a b c d e f g Shows p q r s t u v (suc (suc (suc (suc (suc zero))))) h = u
seven a b c d e f g Shows p q r s t u v (suc (suc (suc (suc (suc (suc zero)))))) h = v
seven a b c d e f g Shows p q r s t u v (suc (suc (suc (suc (suc (suc (suc n))))))) h = absurd (omega arith)

pub returns : goal.returns
returns c k w hk hw =
    seven c.week_of.result c.week_of-2.result c.week_of-3.result c.week_of-4.result c.week_of-5.result c.week_of-6.result c.week_of-7.result
    (λ n row. (v : ℕ) → v < 7 → has_bit row v ≡ is_marked (2 ^ n) c.args.pattern.now.days_of_week v)
    c.week_of.ensures c.week_of-2.ensures c.week_of-3.ensures c.week_of-4.ensures c.week_of-5.ensures c.week_of-6.ensures c.week_of-7.ensures k hk w hw
