use Rattle.std.proofs.Common.{◌≡◌, List, ℕ, string_bytes, subst, sym, rules}
use Rattle.jiff.specs.ZoneView.{plain_zone}
use Rattle.croncheck_shown.specs.Shown.{IsClockText}
use Rattle.croncheck_planner.proofs.plan.list.clock_text_of.Goals as goal

pub returns : goal.returns
returns c =
    let said = c.in_ok-push_clock.ensures in
    let shown : List ℕ = said.0 in
    let is : string_bytes c.push_clock.new.text ≡ shown = search rules in
    subst (λ (text : List ℕ). IsClockText (plain_zone c.args.shared.now.zone) c.args.time.now text) (sym is) said.1
