use Rattle.std.proofs.Common.{rules, arith, ◌≡◌, ◌+◌, ◌-◌, ◌*◌, ◌/◌, ◌%◌, ◌<◌, ◌≤◌, Ok, Err, refl, ap, sym, subst}
use Rattle.std.proofs.lemmas.Bool.{lt-ltb, le-ltb}
use Rattle.std.proofs.lemmas.Result.{err_from_is_err_and}
use Rattle.croner_base.specs.Part.{stepped_marks}
use Rattle.croner_base.specs.Reading.{Reads}
use Rattle.croner_base.proofs.fields.MarkedSteps.{MarksAll-gained, Reads-stepped, Reads-unstepped, after_steps}
use Rattle.croner_base.proofs.component.CronComponent.mark_stepped.Goals as goal

pub returns-in_err-first : goal.returns-in_err-first
returns-in_err-first c =
    let p = err_from_is_err_and c.from_residual.result c.from_residual.ensures.1 in
    rw (p.1, p.2) (Reads-unstepped c.args.self.now c.args.bit c.args.start c.args.end c.args.step _ c.in_err-first.ensures.answer)

pub returns-in-Some : goal.returns-in-Some
returns-in-Some c =
    let g = c.set_steps.ensures in
    let marks : c.self.inside.marks.marks ≡ c.args.self.now.marks = ap (λ f. f.marks) c.self.view_is in
    let all = MarksAll-gained c.args.self.now c.args.bit c.args.start c.args.end c.args.step c.in_ok-first.first _ c.self.inside.marks c.set_steps.new.self
    c.in_ok-first.ensures.answer c.requires.step c.requires.order c.requires.within (search rules) marks c.in_ok-first.ensures.ok (search rules) g in
    let end = after_steps c.args.start c.args.end c.args.step (c.args.end - (c.args.end - c.args.start) % c.args.step) c.requires.order refl in
    let fits : c.args.start + ((c.args.end - c.args.start) / c.args.step + 1) * c.args.step < 65536 = omega (arith, end, c.in-Some.ensures) in
    rw (g.max, g.supported)
    (subst (λ f. Reads {X = Unit {0}} (stepped_marks c.args.self.now.shape c.args.bit c.args.start c.args.end c.args.step) c.args.self.now (record f { marks = c.set_steps.new.self.marks }) (Ok tt)) (sym c.self.view_is)
    (Reads-stepped c.args.self.now _ c.args.bit c.args.start c.args.end c.args.step (Ok tt) all (lt-ltb _ 65536 fits)))

pub returns-in-None : goal.returns-in-None
returns-in-None c =
    let g = c.set_steps.ensures in
    let marks : c.self.inside.marks.marks ≡ c.args.self.now.marks = ap (λ f. f.marks) c.self.view_is in
    let all = MarksAll-gained c.args.self.now c.args.bit c.args.start c.args.end c.args.step c.in_ok-first.first _ c.self.inside.marks c.set_steps.new.self
    c.in_ok-first.ensures.answer c.requires.step c.requires.order c.requires.within (search rules) marks c.in_ok-first.ensures.ok (search rules) g in
    let end = after_steps c.args.start c.args.end c.args.step (c.args.end - (c.args.end - c.args.start) % c.args.step) c.requires.order refl in
    let over : 65536 ≤ c.args.start + ((c.args.end - c.args.start) / c.args.step + 1) * c.args.step = omega (arith, end, c.in-None.ensures) in
    rw (g.max, g.supported)
    (subst (λ f. Reads {X = Unit {0}} (stepped_marks c.args.self.now.shape c.args.bit c.args.start c.args.end c.args.step) c.args.self.now (record f { marks = c.set_steps.new.self.marks }) (Err c.step_too_long.result)) (sym c.self.view_is)
    (Reads-stepped c.args.self.now _ c.args.bit c.args.start c.args.end c.args.step (Err c.step_too_long.result) all (le-ltb _ 65536 over, c.step_too_long.ensures)))
