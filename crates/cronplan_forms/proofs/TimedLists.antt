-- Lists of what has a time: one element more.
use Rattle.std.proofs.Common.{◌≡◌, ◌∙◌, List, [], ◌∷◌, ◌++◌, ap, subst}
use Rattle.std.specs.Prelude.{map}
use Rattle.std.specs.List.{All}
use Rattle.std.proofs.lemmas.List.{map-append}
use Rattle.cronplan.specs.declared.moments.Moment.{Moment}
use Rattle.cronplan.specs.declared.windows.Window.{Window}
use Rattle.cronplan_forms.specs.declared.timed.TimedMoment.{TimedMoment}
use Rattle.cronplan_forms.specs.declared.timed.TimedWindow.{TimedWindow}
use Rattle.cronplan_forms.specs.declared.view.View.{View}
use Rattle.cronplan_forms.specs.Besides.{IsShownTime}
use Rattle.cronplan_forms.specs.Timed.{IsTimedMoment, IsTimedWindow, AreTimedMoments, AreTimedWindows}
use Rattle.cronplan_forms.proofs.Gathered.{each_more}

-- one more in a list and in the list of what it is seen as
pub seen_more : {X Y : Type 0} (f : X → Y) (old new : List X) (x : X) (ys : List Y) (y : Y) → new ≡ old ++ x ∷ [] → map f old ≡ ys → f x ≡ y → map f new ≡ ys ++ y ∷ []
seen_more {X} {Y} f old new x ys y e h s =
    ap (map f) e ∙ map-append f old (x ∷ []) ∙ ap (λ (zs : List Y). zs ++ f x ∷ []) h ∙ ap (λ (z : Y). ys ++ z ∷ []) s

pub moments_more : (v : View) (moments : List Moment) (old new : List TimedMoment) (m : Moment) (t : TimedMoment) → AreTimedMoments v moments old
    → new ≡ old ++ t ∷ [] → t.moment ≡ m → IsShownTime v t.moment.second t.time → AreTimedMoments v (moments ++ m ∷ []) new
moments_more v moments old new m t h e is at = record {
  moments_are = seen_more (λ (u : TimedMoment). u.moment) old new t moments m e h.moments_are is;
  times_are = each_more (IsTimedMoment v) old new t e h.times_are (record { time_is = at });
}

pub windows_more : (v : View) (windows : List Window) (old new : List TimedWindow) (w : Window) (t : TimedWindow) → AreTimedWindows v windows old
    → new ≡ old ++ t ∷ [] → t.window ≡ w → IsShownTime v t.window.from.second t.from → IsShownTime v t.window.until.second t.until
    → AreTimedWindows v (windows ++ w ∷ []) new
windows_more v windows old new w t h e is from until = record {
  windows_are = seen_more (λ (u : TimedWindow). u.window) old new t windows w e h.windows_are is;
  times_are = each_more (IsTimedWindow v) old new t e h.times_are (record { from_is = from; until_is = until });
}
