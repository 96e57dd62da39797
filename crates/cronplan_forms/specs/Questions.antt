-- What is asked of a plan, and what it answers. Source: this crate's documentation of `Questions`.
use Rattle.std.specs.Prelude.{◌≡◌, ℕ, Bool, true, false, not, ◌&&◌, List, [], Option, Some, None, is_none}
use Rattle.croner_base.specs.TableZone.{table_zone}
use Rattle.cronplan_forms.specs.declared.answers.busy.ShownMoment.{ShownMoment}
use Rattle.cronplan_forms.specs.declared.answers.questions.Questions.{Questions}
use Rattle.cronplan_forms.specs.declared.answers.quiet.ShownWindow.{ShownWindow}
use Rattle.cronplan_forms.specs.declared.answers.together.ShownSet.{ShownSet}
use Rattle.cronplan_forms.specs.declared.month.Daily.{Daily}
use Rattle.cronplan_forms.specs.declared.month.Month.{Month}
use Rattle.cronplan_forms.specs.declared.view.View.{View}
use Rattle.cronplan_forms.specs.declared.week.Signs.{Signs}
use Rattle.cronplan_forms.specs.Answers.{IsBusy, busy_text, IsTogetherShown, shows_all, together_text}
use Rattle.cronplan_forms.specs.Apart.{set_apart}
use Rattle.cronplan_forms.specs.Months.{months_text}
use Rattle.cronplan_forms.specs.PlanMonths.{ArePlanMonths}
use Rattle.cronplan_forms.specs.WindowRuns.{AreTold, quiet_text}
use Rattle.cronplan_forms.specs.Weeks.{PlanWeek, IsPlanWeek, week_text}

-- nothing is asked
abbrev pub asks_none : Questions → Bool
asks_none q = is_none q.week && not q.month && is_none q.quiet && is_none q.busy && not q.together

-- ---- the answers: no text where it isn't asked

abbrev pub IsWeekAnswer : View → Option Signs → List ℕ → Type 0
IsWeekAnswer v None text = text ≡ []
IsWeekAnswer v (Some signs) text = (week : PlanWeek) × IsPlanWeek v.table.now v.plan.now week × (text ≡ week_text signs v week)

abbrev pub IsMonthAnswer : View → Bool → List ℕ → Type 0
IsMonthAnswer v false text = text ≡ []
IsMonthAnswer v true text = (months : List Month) × (daily : List Daily) × ArePlanMonths v months daily × (text ≡ months_text months daily)

abbrev pub IsQuietAnswer : View → Option ℕ → List ℕ → Type 0
IsQuietAnswer v None text = text ≡ []
IsQuietAnswer v (Some least) text = (told : List ShownWindow) × AreTold (table_zone v.table.now) v.plan.now least told × (text ≡ quiet_text (shows_all v) least told)

abbrev pub IsBusyAnswer : View → Option ℕ → List ℕ → Type 0
IsBusyAnswer v None text = text ≡ []
IsBusyAnswer v (Some most) text =
    (shown : List ShownMoment) × (hours : List ℕ) × IsBusy (table_zone v.table.now) v.plan.now most shown hours × (text ≡ busy_text (shows_all v) shown hours)

abbrev pub IsTogetherAnswer : View → Bool → List ℕ → Type 0
IsTogetherAnswer v false text = text ≡ []
IsTogetherAnswer v true text =
    (shown : List ShownSet) × IsTogetherShown (table_zone v.table.now) v.plan.now shown × (text ≡ together_text v.jobs.now shown)

-- ---- all of them

-- its answers, one below the other
pub record IsAnswers (v : View) (asked : Questions) (text : List ℕ) : Type 0 where
  pub week : List ℕ
  pub month : List ℕ
  pub quiet : List ℕ
  pub busy : List ℕ
  pub together : List ℕ
  pub week_is : IsWeekAnswer v asked.week week
  pub month_is : IsMonthAnswer v asked.month month
  pub quiet_is : IsQuietAnswer v asked.quiet quiet
  pub busy_is : IsBusyAnswer v asked.busy busy
  pub together_is : IsTogetherAnswer v asked.together together
  pub text_is : text ≡ set_apart (set_apart (set_apart (set_apart week month) quiet) busy) together
