-- Months and years in words.
use Rattle.std.specs.Prelude.{ℕ, List, [], ◌++◌, drop, codes, Option, Some, None}
use Rattle.croner_summary.specs.declared.language.Style.{Style}
use Rattle.croner_summary.specs.declared.language.SummaryLanguage.{SummaryLanguage}
use Rattle.croner_summary.specs.declared.language.Term.TheVariants.{From, InMonths, AndInMonths, InNthYears, InYears, AndInYears}
use Rattle.croner_summary.specs.declared.language.TimeUnit.{TimeUnit}
use Rattle.croner_summary.specs.declared.language.TimeUnit.TheVariants.{Month as MonthUnit, Year as YearUnit}
use Rattle.croner_summary.specs.declared.phrase.Piece.{Piece}
use Rattle.croner_summary.specs.declared.phrase.Piece.TheVariants.{Every, EveryNth, One, Range, RangeNth}
use Rattle.croner_summary.specs.declared.words.Kind.{Kind}
use Rattle.croner_summary.specs.declared.words.Kind.TheVariants.{Month, Year}
use Rattle.croner_summary.specs.Words.{head_step, is_year, least_of, list_text, nth_text, only_piece, span_text, term_text, unit_name, value_text}

-- every nth: `every 3rd month from `
unfoldable pub stepped : SummaryLanguage → TimeUnit → Kind → ℕ → List ℕ
stepped l unit kind n = nth_text l (is_year kind) n ++ (unit_name l unit ++ term_text l From)

-- every nth from the least on: `every 3rd month from January`
unfoldable pub stepped_all : SummaryLanguage → TimeUnit → Kind → ℕ → List ℕ
stepped_all l unit kind n = stepped l unit kind n ++ value_text l kind (least_of kind)

-- every nth from one to another: `every 2nd year from 2020 to 2028`
unfoldable pub stepped_span : SummaryLanguage → TimeUnit → Kind → ℕ → ℕ → ℕ → List ℕ
stepped_span l unit kind first last n = stepped l unit kind n ++ span_text l kind first last

-- a list of months, which may begin with a step: ` in every 2nd month from January and in December`
unfoldable pub listed_months : Style → List Piece → Option ℕ → List ℕ
listed_months style pieces None = term_text style.language InMonths ++ list_text style Month pieces
listed_months style pieces (Some n) =
    term_text style.language InMonths ++ (stepped_all style.language MonthUnit Month n
    ++ (term_text style.language AndInMonths ++ list_text style Month (drop 1 pieces)))

unfoldable pub months_case : Style → List Piece → Option Piece → List ℕ
months_case style pieces (Some Every) = []
months_case style pieces (Some (EveryNth n)) = term_text style.language InMonths ++ stepped_all style.language MonthUnit Month n
months_case style pieces (Some (RangeNth first last n)) =
    term_text style.language InMonths ++ stepped_span style.language MonthUnit Month first last n
months_case style pieces (Some (One n)) = term_text style.language InMonths ++ list_text style Month pieces
months_case style pieces (Some (Range first last)) = codes ", " ++ span_text style.language Month first last
months_case style pieces None = listed_months style pieces (head_step pieces)

-- a list of years, which may begin with a step: `, in every 2nd year from 1 and in 2025`
unfoldable pub listed_years : Style → List Piece → Option ℕ → List ℕ
listed_years style pieces None = term_text style.language InYears ++ list_text style Year pieces
listed_years style pieces (Some n) =
    term_text style.language InNthYears ++ (stepped_all style.language YearUnit Year n
    ++ (term_text style.language AndInYears ++ list_text style Year (drop 1 pieces)))

unfoldable pub years_case : Style → List Piece → Option Piece → List ℕ
years_case style pieces (Some Every) = []
years_case style pieces (Some (EveryNth n)) = term_text style.language InNthYears ++ stepped_all style.language YearUnit Year n
years_case style pieces (Some (RangeNth first last n)) =
    term_text style.language InNthYears ++ stepped_span style.language YearUnit Year first last n
years_case style pieces (Some (One n)) = term_text style.language InYears ++ list_text style Year pieces
years_case style pieces (Some (Range first last)) =
    codes "," ++ (term_text style.language From ++ span_text style.language Year first last)
years_case style pieces None = listed_years style pieces (head_step pieces)

unfoldable pub months_text : Style → List Piece → List ℕ
months_text style pieces = months_case style pieces (only_piece pieces)

unfoldable pub years_text : Style → List Piece → List ℕ
years_text style pieces = years_case style pieces (only_piece pieces)
