use Rattle.std.proofs.Common.{ap, ◌∙◌, List, ℕ, reverse}
use Rattle.httparse.specs.Grammar.{trim_ows, skip_ows}
use Rattle.http_front.proofs.fields.trim_blanks.Goals as goal

pub returns : goal.returns
unfolding trim_ows
returns c = c.skip_last_blanks.ensures ∙ ap (λ (bytes : List ℕ). reverse (skip_ows (reverse bytes))) c.skip_blanks.ensures
