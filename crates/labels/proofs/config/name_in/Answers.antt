use Rattle.std.proofs.Common.{◌≡◌, ℕ, ◌+◌, ◌-◌, List, length, take, drop, replicate, Option, Some, None, true, false, subst, sym, ◌∙◌, ap, arith}
use Rattle.std.specs.Prelude.{IfSome}
use Rattle.std.proofs.lemmas.List.{take_rest}
use Rattle.base.specs.formats.Names.{IsName}
use Rattle.base.specs.formats.Labels.{IsConfigPayload}
use Rattle.labels.proofs.ConfigBlocks.{zeros-behind, IsConfigPayload-by}
use Rattle.labels.proofs.config.name_in.Goals as goal

-- zeros after so many bytes of the name
Zeros : List ℕ → ℕ → Type 0
Zeros payload n = drop (24 + n) payload ≡ replicate (length (drop (24 + n) payload)) 0

pub returns-then-not-are_zeros-clause-none : goal.returns-then-not-are_zeros-clause-none
unfolding Zeros
returns-then-not-are_zeros-clause-none c = λ name p.
    let payload = c.args.payload.now in
    let same : c.read_u64-length.result ≡ length name = c.read_u64-length.ensures ∙ p.name_length in
    let zeros : Zeros payload c.read_u64-length.result = subst (Zeros payload) (sym same) (zeros-behind payload c.args.size name p c.requires) in
    let told = rw (take_rest payload (24 + c.read_u64-length.result)) at c.are_zeros.ensures.1 in
    let yes : c.are_zeros.result ≡ true = told zeros in
    let e : true ≡ false = sym yes ∙ c.if-not-are_zeros.true in cc

named : (P Q : List ℕ → Type 0) (o : Option (List ℕ)) → ((name : List ℕ) → P name → Q name) → IfSome o P → IfSome o Q
named P Q None f h = h
named P Q (Some name) f h = f name h

pub returns-clause-name : goal.returns-clause-name
returns-clause-name c =
    let payload = c.args.payload.now in
    let n = c.read_u64-length.result in
    let zeros = rw (take_rest payload (24 + c.read_u64-length.result)) at (c.are_zeros.ensures.0 c.if-not-are_zeros.false) in
    let there : take (24 + n - 24) (drop 24 payload) ≡ take n (drop 24 payload) = ap (λ (k : ℕ). take k (drop 24 payload)) (omega arith) in
    named (λ name. (name ≡ take (24 + n - 24) (drop 24 payload)) × IsName (take (24 + n - 24) (drop 24 payload))) (IsConfigPayload payload c.args.size) c.new.result
    (λ name h. IsConfigPayload-by payload c.args.size n name c.requires c.if-length.false (sym c.read_u64.ensures ∙ c.if-read_u64-ne-VERSION.false)
    (sym c.read_u64-else-read_u64-ne-VERSION.ensures ∙ c.if-read_u64-size.false) (sym c.read_u64-length.ensures) (h.0 ∙ there) (subst IsName (sym h.0) h.1) zeros)
    c.new.ensures.name
