-- The text of the page of a plan.
use Rattle.std.proofs.Common.{◌≡◌, ℕ, List}
use Rattle.cronplan_forms.specs.declared.view.View.{View}
use Rattle.cronplan_page.specs.declared.about.About.{About}
use Rattle.cronplan_page.specs.declared.page.Page.{Page}
use Rattle.cronplan_page.specs.Pages.{page_text}
use Rattle.cronplan_page.specs.PlanPages.{IsPageOf, IsPageText}

pub page_text_is : (view : View) (about : About) (page : Page) (text : List ℕ) → text ≡ page_text page → IsPageOf view about page → IsPageText view about text
page_text_is view about page text is h = record { page = page; is_page = h; text_is = is }
