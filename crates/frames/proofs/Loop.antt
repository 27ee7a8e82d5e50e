-- Requests that are read one after the other, as a loop does, are those that are read in all.
use Rattle.std.proofs.Common.{◌≡◌, ℕ, suc, ◌-◌, ◌+◌, ◌≤◌, ◌<◌, List, [], ◌∷◌, ◌++◌, Result, Ok, Err, refl, sym, ap, ◌∙◌, append_assoc, arith, inl, inr}
use Rattle.std.proofs.lemmas.List.{append-nil}
use Rattle.frames.specs.Reading.{◌>>=◌, Fails, request_in, requests_in}
use Rattle.frames.specs.declared.error.FrameError.{FrameError}
use Rattle.frames.specs.declared.request.Request.{Request}

-- what was read before, and what is still read
abbrev pub with_front : List Request → Result (List Request × List ℕ) FrameError → Result (List Request × List ℕ) FrameError
with_front front (Ok x) = Ok (front ++ x.0, x.1)
with_front front (Err e) = Err e

regroup : (front : List Request) (r : Request) (read : Result (List Request × List ℕ) FrameError) → with_front front (read >>= λ x. Ok (r ∷ x.0, x.1)) ≡ with_front (front ++ r ∷ []) read
regroup front r (Ok x) = ap (λ (l : List Request). Ok (l, x.1)) (simp append_assoc)
regroup front r (Err e) = refl

pub goes_on : (front : List Request) (count i : ℕ) (bytes : List ℕ) (r : Request) (after : List ℕ) (total : Result (List Request × List ℕ) FrameError) → i < count → request_in bytes ≡ Ok (r, after)
    → with_front front (requests_in (count - i) bytes) ≡ total → with_front (front ++ r ∷ []) (requests_in (count - (i + 1)) after) ≡ total
unfolding requests_in
goes_on front count i bytes r after total lt h so_far =
    let k : count - i ≡ suc (count - (i + 1)) = omega arith in
    let one : with_front front (requests_in (count - i) bytes) ≡ with_front (front ++ r ∷ []) (requests_in (count - (i + 1)) after) = rw (k, h) (regroup front r (requests_in (count - (i + 1)) after)) in
    sym one ∙ so_far

pub ends : (e : FrameError) (front : List Request) (count i : ℕ) (bytes : List ℕ) (total : Result (List Request × List ℕ) FrameError) → i < count → Fails e (request_in bytes)
    → with_front front (requests_in (count - i) bytes) ≡ total → Fails e total
unfolding requests_in
ends e front count i bytes total lt (inl lacks) so_far = inl lacks
ends e front count i bytes total lt (inr h) so_far =
    let k : count - i ≡ suc (count - (i + 1)) = omega arith in
    let one : with_front front (requests_in (count - i) bytes) ≡ Err e = rw (k, h) refl in
    inr (sym so_far ∙ one)

pub is_done : (front : List Request) (count i : ℕ) (bytes : List ℕ) (total : Result (List Request × List ℕ) FrameError) → count ≤ i → with_front front (requests_in (count - i) bytes) ≡ total → total ≡ Ok (front, bytes)
unfolding requests_in
is_done front count i bytes total le so_far =
    let k : count - i ≡ 0 = omega arith in
    let one : with_front front (requests_in (count - i) bytes) ≡ Ok (front, bytes) = rw k (ap (λ (l : List Request). Ok (l, bytes)) (append-nil front)) in
    sym so_far ∙ one
