-- Requests that are read one after the other are those that were written, and what was written is read again.
use Rattle.std.proofs.Common.{◌≡◌, ℕ, zero, suc, List, [], ◌∷◌, ◌++◌, length, Ok, refl, ap, subst, ◌∙◌, append_assoc}
use Rattle.std.specs.Prelude.{All}
use Rattle.std.proofs.lemmas.List.Concat.{flat_map-cons}
use Rattle.std.proofs.lemmas.List.Elements.{All-nil, All-cons, All-head, All-tail}
use Rattle.records.proofs.Fields.{IsBytes, Takes, Takes-then}
use Rattle.frames.specs.Reading.{◌>>=◌, request_in, requests_in}
use Rattle.frames.specs.Requests.{IsRequestAllowed, bytes_of_all, bytes_of_request}
use Rattle.frames.specs.declared.request.Request.{Request}
use Rattle.frames.proofs.Steps.{bind_ok, bind-ok, ok_is}
use Rattle.frames.proofs.CallsRead.{request_again, request_takes}

-- bytes are those of so many requests within their limits, and a rest
abbrev pub TakesAll : ℕ → List ℕ → List Request × List ℕ → Type 0
TakesAll n bytes x = Takes bytes (bytes_of_all x.0) x.1 × (length x.0 ≡ n) × All IsRequestAllowed x.0

pub requests_take : (n : ℕ) (bytes : List ℕ) (x : List Request × List ℕ) → IsBytes bytes → requests_in n bytes ≡ Ok x → TakesAll n bytes x
unfolding requests_in
requests_take zero bytes x fits e =
    subst (λ (y : List Request × List ℕ). TakesAll 0 bytes y) (ok_is ([], bytes) x e) (record { parts = refl; rest_fits = fits }, refl, All-nil IsRequestAllowed)
requests_take (suc n) bytes x fits e =
    let a = bind_ok (request_in bytes) (λ first. requests_in n first.1 >>= λ others. Ok (first.0 ∷ others.0, others.1)) x e in
    let b = bind_ok (requests_in n a.0.1) (λ others. Ok (a.0.0 ∷ others.0, others.1)) x a.2 in
    let first = request_takes bytes a.0 fits a.1 in
    let second = requests_take n a.0.1 b.0 first.0.rest_fits b.1 in
    let both = Takes-then bytes (bytes_of_request a.0.0) a.0.1 (bytes_of_all b.0.0) b.0.1 first.0 second.0 in
    let made : List Request × List ℕ = (a.0.0 ∷ b.0.0, b.0.1) in
    subst (λ (y : List Request × List ℕ). TakesAll (suc n) bytes y) (ok_is made x b.2) (rw flat_map-cons both, ap suc second.1, All-cons IsRequestAllowed a.0.0 b.0.0 first.1 second.2)

pub requests_again : (requests : List Request) (rest : List ℕ) → All IsRequestAllowed requests → requests_in (length requests) (bytes_of_all requests ++ rest) ≡ Ok (requests, rest)
unfolding requests_in
requests_again [] rest allowed = refl
requests_again (r ∷ rs) rest allowed =
    let regrouped : bytes_of_all (r ∷ rs) ++ rest ≡ bytes_of_request r ++ (bytes_of_all rs ++ rest) = ap (λ (l : List ℕ). l ++ rest) (flat_map-cons bytes_of_request r rs) ∙ append_assoc (bytes_of_request r) (bytes_of_all rs) rest in
    ap (requests_in (suc (length rs))) regrouped
    ∙ bind-ok (request_in (bytes_of_request r ++ (bytes_of_all rs ++ rest))) (λ first. requests_in (length rs) first.1 >>= λ others. Ok (first.0 ∷ others.0, others.1)) (r, bytes_of_all rs ++ rest)
    (request_again r (bytes_of_all rs ++ rest) (All-head IsRequestAllowed r rs allowed))
    ∙ bind-ok (requests_in (length rs) (bytes_of_all rs ++ rest)) (λ others. Ok (r ∷ others.0, others.1)) (rs, rest) (requests_again rs rest (All-tail IsRequestAllowed r rs allowed))
