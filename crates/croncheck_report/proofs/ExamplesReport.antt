-- Worked rows of what is found of a setting.
use Rattle.std.proofs.Common.{◌≡◌, List, ℕ, [], ◌∷◌, ◌++◌, true, false, refl}
use Rattle.std.specs.Prelude.{codes}
use Rattle.croncheck_report.specs.declared.report.SettingReport.{SettingReport}
use Rattle.croncheck_report.specs.Report.{setting_found}

-- nothing is found of it
abbrev nothing : SettingReport
nothing = record { is_zone = false; has_no_effect = false; is_not_expanded = false; sends_no_mail = false; is_hiding = false }

a_setting_with_a_variable : setting_found false (codes " PATH=$HOME/bin") ≡ record nothing { is_not_expanded = true }
a_setting_with_a_variable = refl

a_setting_that_ends_with_a_return : setting_found false (codes "A=b" ++ (13 ∷ [])) ≡ nothing
a_setting_that_ends_with_a_return = refl

a_setting_with_a_return_within : setting_found false (codes "A=b" ++ (13 ∷ codes "c")) ≡ record nothing { is_hiding = true }
a_setting_with_a_return_within = refl

a_setting_that_hides : setting_found false (codes "A=b" ++ (27 ∷ [])) ≡ record nothing { is_hiding = true }
a_setting_that_hides = refl

a_plain_setting : setting_found true (codes "TZ=UTC") ≡ record nothing { is_zone = true }
a_plain_setting = refl

a_setting_of_mail : setting_found false (codes " MAILTO=Ops <ops@example.org>") ≡ record nothing { sends_no_mail = true }
a_setting_of_mail = refl

a_setting_without_effect : setting_found false (codes " RANDOM_DELAY=45") ≡ record nothing { has_no_effect = true }
a_setting_without_effect = refl
