use Rattle.std.proofs.Common.{◌≡◌, sym, ◌∙◌, arith}
use Rattle.std.proofs.lemmas.Bool.Decides.{nat_tests}
use Rattle.croner_summary.proofs.OneByOne.{rightly}
use Rattle.croner_summary.proofs.exact.name_rightly.Goals as goal

pub returns : goal.returns
returns c same =
    let is : c.times_named.result ≡ c.from.result = grind (arith, nat_tests) in
    rightly c.args.least c.args.greatest c.args.pieces.now c.args.value c.args.named (sym c.times_named.ensures ∙ is ∙ c.from.ensures)
