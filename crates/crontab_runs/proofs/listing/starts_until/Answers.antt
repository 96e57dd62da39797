use Rattle.std.proofs.Common.{◌≡◌, ◌∙◌, ◌+◌, ℕ, List, length, refl, sym, ap, subst, arith}
use Rattle.crontab_runs.specs.declared.job.Start.{Start}
use Rattle.crontab_runs.proofs.StartLists.{GivesUntil, gives_none, one_more, one_longer, ends_listing, lists_full}
use Rattle.crontab_runs.proofs.listing.starts_until.Goals as goal

pub loop-call-init : goal.loop-call-init
loop-call-init c =
    let i = c.args.iterator in
    record {
      gives = subst (λ (xs : List Start). GivesUntil i.direction i.job.now i.position c.args.until i xs) (sym c.in_ok-starts.ensures.items)
          (gives_none i.direction i.job.now i.position c.args.until i refl refl refl);
      each = ap (λ (xs : List Start). length xs) c.in_ok-starts.ensures.items;
      room = omega (arith, c.in_ok-starts.ensures.capacity);
    }

pub loop-call-preserved : goal.loop-call-preserved
loop-call-preserved c =
    let i = c.args.iterator in
    let held = c.loop-call.invariant in
    let takes = c.in_default.ensures.takes in
    record {
      gives = one_more i.direction i.job.now i.position c.args.until c.loop-call.left c.take_next_until.new.left c.loop-call.starts.items c.take_next_until.new.starts.items held.gives takes;
      each = one_longer i.direction i.job.now i.position c.args.until c.loop-call.left c.take_next_until.new.left c.loop-call.starts.items c.take_next_until.new.starts.items held.gives takes
          ∙ ap (λ (n : ℕ). n + 1) held.each;
      room = omega (arith, c.in_default.ensures.room, held.room);
    }

pub returns-in-Some : goal.returns-in-Some
returns-in-Some c =
    let i = c.args.iterator in
    let held = c.loop-call.invariant in
    ends_listing i.direction i.job.now i.position c.args.until c.loop-call.left c.take_next_until.new.left c.loop-call.starts.items c.take_next_until.new.starts.items held.gives c.args.most
    c.in-Some.end (omega (arith, held.each)) c.in-Some.ensures.takes

pub returns : goal.returns
returns c =
    let i = c.args.iterator in
    let full : c.loop-call._call ≡ c.args.most = omega arith in
    let held = c.loop-call.invariant in
    lists_full i.direction i.job.now i.position c.args.until c.loop-call.left c.loop-call.left c.loop-call.starts.items c.loop-call.starts.items held.gives c.args.most (held.each ∙ full)
