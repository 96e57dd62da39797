use Rattle.std.proofs.Common.{inl, inr}
use Rattle.croner.specs.Views.{job_of}
use Rattle.croner.proofs.zone.ZoneOrder.{same_or_not}
use Rattle.croncheck_changes.proofs.Meetings.{is_moved, is_left_out, is_none_left}
use Rattle.croncheck_changes.proofs.changes.Changes.fate_in_gap.Goals as goal
use Rattle.croncheck_changes.proofs.changes.Changes.fate_in_gap.Goals.{in-Ok, in-Err}

pub returns : goal.returns
returns c =
    let t = c.args.self.now.start in
    let m = job_of c.args.job.now in
    let before = c.second_before.result in
    let same = c.second_before.ensures in
    elim c.match-find_next_occurrence.branch [
      | in-Ok w ↦ elim (same_or_not w.in-Ok.run'.second c.args.change.instant) [
        | inl at ↦
            let moved = is_moved t before w.in-Ok.run' m c.args.change c.args.second same w.in-Ok.ensures.found c.requires.told c.requires.first c.requires.fixed at in
            rw (w.result-is, w.fate_by.ensures.moved at) moved
        | inr other ↦
            let left = is_left_out t before w.in-Ok.run' m c.args.change same w.in-Ok.ensures.found other in
            rw (w.result-is, w.fate_by.ensures.left_out other) left
      ]
      | in-Err w ↦
          let left = is_none_left t before m c.args.change w.in-Err.field-0 same w.in-Err.ensures.refused c.requires.told in
          rw w.result-is left
    ]
