use Rattle.std.proofs.Common.{◌∙◌, ◌++◌, ◌-◌, ℕ, List, append_assoc, ap, sym, arith, codes, string_bytes, take}
use Rattle.std.specs.List.{flat_map}
use Rattle.std.specs.Str.{chars}
use Rattle.cronplan_forms.specs.Months.{character_text}
use Rattle.cronplan_forms.proofs.MonthParts.{cut_short}
use Rattle.cronplan_forms.proofs.month.push_cut.Goals as goal

pub returns : goal.returns
returns c =
    let first : List ℕ = flat_map character_text (take (c.args.most - 1) (chars c.args.title.now)) in
    c.in_ok-push_str.ensures.bytes ∙ ap (λ (bs : List ℕ). bs ++ codes "~") c.in_ok-push_first.ensures ∙ append_assoc (string_bytes c.args.text.now) first (codes "~")
    ∙ ap (λ (bs : List ℕ). string_bytes c.args.text.now ++ bs) (sym (cut_short c.args.most c.args.title.now (omega (arith, c.character_count.ensures))))
