use Rattle.std.proofs.Common.{◌≡◌, ◌∙◌, ℕ, List, ap, refl}
use Rattle.std.specs.Prelude.{string_bytes}
use Rattle.croncheck_output.specs.Builds.{path_shown}
use Rattle.croncheck_reading.specs.Sink.{state_of}
use Rattle.croncheck_reading.specs.Stand.{begin_of_file, stand_of}
use Rattle.croncheck_reading.proofs.ToldFiles.{file_told}
use Rattle.croncheck_reading.proofs.sink.Sink.read.Goals as goal

pub returns : goal.returns
returns g c =
    let self = c.args.self.now in
    let before = state_of g.W.Write.contents self.form self.progress self.output in
    let is_shown : string_bytes c.in_ok-name.name ≡ path_shown c.args.name.now = c.in_ok-name.ensures ∙ ap path_shown c.as_bytes.ensures.value in
    let begun = ap (λ stand. record before { stand = stand }) (c.begin.ensures ∙ ap (λ (name : List ℕ). begin_of_file name c.args.unfit (stand_of self.progress)) is_shown) in
    file_told (λ s. state_of g.W.Write.contents s.form s.progress s.output) (λ s. s.terms) g.F.Form.takes (g.F.Form.ends_file c.args.terms)
    c.args.terms.settings.now.dialect (path_shown c.args.name.now) c.args.unfit (g.R.Read.remaining c.args.reader.now) c.args.terms before _ c.check.new.sink _ refl begun
    c.in_ok-check.ensures (refl, c.count_file.ensures, c.in_ok-end_file.ensures)
