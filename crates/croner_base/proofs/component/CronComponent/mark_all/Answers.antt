use Rattle.std.proofs.Common.{rules, ◌≡◌, ap, sym, subst, Ok}
use Rattle.std.proofs.lemmas.Result.{err_from_is_err_and}
use Rattle.croner_base.specs.Field.{values_between}
use Rattle.croner_base.specs.Part.{all_marked}
use Rattle.croner_base.specs.Reading.{Reads}
use Rattle.croner_base.proofs.fields.MarkedSteps.{Reads-gained, Reads-unfilled}
use Rattle.croner_base.proofs.component.CronComponent.mark_all.Goals as goal

pub returns-in_err-first : goal.returns-in_err-first
returns-in_err-first c =
    let p = err_from_is_err_and c.from_residual.result c.from_residual.ensures.1 in
    rw (p.1, p.2) (Reads-unfilled c.args.self.now c.args.bit c.args.first c.args.last _ c.requires.order c.in_err-first.ensures.answer)

pub returns : goal.returns
returns c =
    let g = c.set_steps.ensures in
    let marks : c.self.inside.marks.marks ≡ c.args.self.now.marks = ap (λ f. f.marks) c.self.view_is in
    let r = Reads-gained c.args.self.now c.args.bit c.args.first c.args.last c.in_ok-first.first _ c.self.inside.marks c.set_steps.new.self
    c.in_ok-first.ensures.answer c.requires.order c.requires.within (search rules) marks c.in_ok-first.ensures.ok (search rules) c.set_steps.ensures in
    rw (g.max, g.supported)
    (subst (λ f. Reads {X = Unit {0}} (all_marked c.args.self.now.shape c.args.bit (values_between c.args.first c.args.last)) c.args.self.now (record f { marks = c.set_steps.new.self.marks }) (Ok tt)) (sym c.self.view_is) r)
