-- What was pushed one after another.
use Rattle.std.proofs.Common.{◌≡◌, ◌∙◌, List, ◌++◌, append_assoc}
use Rattle.croncheck_findings.specs.Findings.{Said}

-- four lists, each after what was there before
pub four_pushed : (s a b c d one two three four : List Said) → one ≡ s ++ a → two ≡ one ++ b → three ≡ two ++ c → four ≡ three ++ d
    → four ≡ s ++ (a ++ (b ++ (c ++ d)))
four_pushed s a b c d one two three four first second third fourth =
    rw (fourth, third, second, first)
    (append_assoc (s ++ a ++ b) c d ∙ append_assoc (s ++ a) b (c ++ d) ∙ append_assoc s a (b ++ (c ++ d)))
