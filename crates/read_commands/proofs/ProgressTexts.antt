-- The text of eight million bytes in two seconds is written.
use Rattle.std.proofs.Common.{◌≡◌, ℕ, List, Option, Result, ap, refl, subst, ◌∙◌}
use Rattle.std.specs.Fmt.{digits}
use Rattle.std.specs.Io.KnownBytes.{Appends}
use Rattle.std.specs.Prelude.{OnOk, codes}
use Rattle.rates.specs.Rates.{rate_of}
use Rattle.read_commands.specs.ProgressLines.{done_text}

eight_million : done_text 8000000 (rate_of 8000000 2000000) ≡ codes "8000000 bytes done, 4000000 bytes in a second"
unfolding digits
eight_million = refl

pub eight_million_written : {E : Type 0} (written : Result (Unit {0}) E) (before after : Option (List ℕ)) (bytes rate : ℕ) → bytes ≡ 8000000 → rate ≡ rate_of 8000000 2000000
    → OnOk written (Appends before after (done_text bytes rate)) → OnOk written (Appends before after (codes "8000000 bytes done, 4000000 bytes in a second"))
eight_million_written written before after bytes rate of in_second writes =
    let first : done_text bytes rate ≡ done_text 8000000 rate = ap (λ n. done_text n rate) of in
    let then : done_text 8000000 rate ≡ done_text 8000000 (rate_of 8000000 2000000) = ap (λ n. done_text 8000000 n) in_second in
    subst (λ (text : List ℕ). OnOk written (Appends before after text)) (first ∙ (then ∙ eight_million)) writes
