use Rattle.std.proofs.Common.{◌≡◌, ◌∙◌, ◌+◌, ap, sym, subst, arith, get_or, List}
use Rattle.std.proofs.lemmas.List.Elements.{Contains-get_or}
use Rattle.cronplan.specs.declared.together.Meeting.{Meeting}
use Rattle.cronplan.specs.declared.together.Together.{Together}
use Rattle.cronplan.specs.Private.Meetings.{AreSetsUntil}
use Rattle.cronplan.proofs.JobSets.{some_meeting, same_sets, next_sets, set_is}
use Rattle.cronplan.proofs.together.push_set.Goals as goal

pub returns-in-None : goal.returns-in-None
returns-in-None c =
    let x : Meeting = some_meeting c.args.meetings.now c.args.place (omega arith) in
    same_sets c.args.meetings.now c.args.sets.now.items c.args.place x (omega arith) (c.in-None.ensures x)

pub returns-in_ok-push-in-Some : goal.returns-in_ok-push-in-Some
returns-in_ok-push-in-Some c = λ until.
    let ms : List Meeting = c.args.meetings.now in
    let x : Meeting = c.index-meetings-place.result in
    let is : x ≡ get_or ms c.args.place x = c.index-meetings-place.is in
    let group = c.in-Some.ensures x in
    subst (λ (sets : List Together). AreSetsUntil (c.args.place + 1) ms sets) (sym c.in_ok-push-in-Some.ensures.items)
    (next_sets ms c.args.sets.now.items c.args.place x c.in_ok-set-in-Some.set (omega arith) group.lower
    (c.in_ok-set-in-Some.ensures.jobs ∙ ap (λ (m : Meeting). m.jobs.items) is)
    (set_is ms c.in-Some.group.now (get_or ms c.args.place x) c.in_ok-set-in-Some.set (Contains-get_or ms c.args.place x (omega arith)) group.group_is group.first_is
    (c.in_ok-set-in-Some.ensures.jobs ∙ ap (λ (m : Meeting). m.jobs.items) is) c.in_ok-set-in-Some.ensures.moments (c.in_ok-set-in-Some.ensures.first ∙ ap (λ (m : Meeting). m.moment) is))
    until)
