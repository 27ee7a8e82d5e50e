use Rattle.std.proofs.Common.{◌≡◌, ℕ, List, [], ◌∷◌, ◌++◌, All, drop, length, map, get_or, sym, ap, subst, ◌∙◌, arith}
use Rattle.std.proofs.lemmas.List.{length-append}
use Rattle.std.proofs.lemmas.List.Elements.{All-head, All-tail}
use Rattle.base.specs.formats.Blocks.{IsBlock}
use Rattle.checked_blocks.specs.Prepared.{IsPreparedBlock, prepared_block}
use Rattle.checked_blocks.specs.declared.sealing.Prepared.{Prepared}
use Rattle.intent_log.proofs.ahead.seal_side_by_side.Goals as goal

-- this is the log block of a prepared one
abbrev IsBlockOf : ℕ → ℕ → Prepared → List ℕ → Type 0
IsBlockOf guid group p block = IsBlock block 6 guid group p.number (drop 64 p.bytes.value)

-- four that end a list of four are all of it
ends_four : {X : Type 0} (s t u v a b c d : X) (rest : List X) → (((rest ++ a ∷ []) ++ b ∷ []) ++ c ∷ []) ++ d ∷ [] ≡ s ∷ t ∷ u ∷ v ∷ []
    → (a ≡ s) × (b ≡ t) × (c ≡ u) × (d ≡ v)
ends_four {X} s t u v a b c d [] e =
    (ap (λ (l : List X). get_or l 0 a) e, ap (λ (l : List X). get_or l 1 a) e, ap (λ (l : List X). get_or l 2 a) e, ap (λ (l : List X). get_or l 3 a) e)
ends_four {X} s t u v a b c d (x ∷ rest) e =
    absurd (omega (
      arith,
      ap (λ (l : List X). length l) e,
      length-append ((x ∷ rest) ++ a ∷ []) (b ∷ []),
      length-append (((x ∷ rest) ++ a ∷ []) ++ b ∷ []) (c ∷ []),
      length-append ((((x ∷ rest) ++ a ∷ []) ++ b ∷ []) ++ c ∷ []) (d ∷ []),
      length-append (x ∷ rest) (a ∷ []),
    ))

-- so those that are taken from the back of four, one by one, are these
taken_back : {X : Type 0} (s t u v a b c d : X) (items first second third rest : List X) → items ≡ s ∷ t ∷ u ∷ v ∷ []
    → items ≡ first ++ d ∷ [] → first ≡ second ++ c ∷ [] → second ≡ third ++ b ∷ [] → third ≡ rest ++ a ∷ []
    → (a ≡ s) × (b ≡ t) × (c ≡ u) × (d ≡ v)
taken_back {X} s t u v a b c d items first second third rest all e f g h =
    ends_four s t u v a b c d rest (sym (e
    ∙ ap (λ (l : List X). l ++ d ∷ []) (f ∙ ap (λ (l : List X). l ++ c ∷ []) (g ∙ ap (λ (l : List X). l ++ b ∷ []) h)))
    ∙ all)

-- and each is the block of what was prepared in its place
blocks_back : (guid group : ℕ) (p q r o : Prepared) (a b c d : List ℕ) (blocks : List Prepared) (items first second third rest : List (List ℕ)) → blocks ≡ p ∷ q ∷ r ∷ o ∷ []
    → items ≡ map (prepared_block 6 guid group) blocks → All (IsPreparedBlock 6 guid group) blocks
    → items ≡ first ++ d ∷ [] → first ≡ second ++ c ∷ [] → second ≡ third ++ b ∷ [] → third ≡ rest ++ a ∷ []
    → IsBlockOf guid group p a × IsBlockOf guid group q b × IsBlockOf guid group r c × IsBlockOf guid group o d
blocks_back guid group p q r o a b c d blocks items first second third rest are sealed each e f g h =
    let made = prepared_block 6 guid group in
    let is = IsPreparedBlock 6 guid group in
    let same = taken_back (made p) (made q) (made r) (made o) a b c d items first second third rest (sealed ∙ ap (map made) are) e f g h in
    let from_p = subst (All is) are each in
    let from_q = All-tail is p (q ∷ r ∷ o ∷ []) from_p in
    let from_r = All-tail is q (r ∷ o ∷ []) from_q in
    let from_o = All-tail is r (o ∷ []) from_r in (
      subst (IsBlockOf guid group p) (sym same.0) (All-head is p (q ∷ r ∷ o ∷ []) from_p),
      subst (IsBlockOf guid group q) (sym same.1) (All-head is q (r ∷ o ∷ []) from_q),
      subst (IsBlockOf guid group r) (sym same.2) (All-head is r (o ∷ []) from_r),
      subst (IsBlockOf guid group o) (sym same.3) (All-head is o [] from_o),
    )

pub returns-clause-first : goal.returns-clause-first
returns-clause-first c =
    let i = c.in-Some-Some-Some-Some in
    (blocks_back _ _ _ _ _ _ i.a i.b i.c i.d _ _ _ _ _ _ c.in_ok-blocks.ensures.items c.in_ok-sealed.ensures.sealed c.in_ok-sealed.ensures.block i.ensures.items i.ensures'.items i.ensures''.items i.ensures'''.items).0

pub returns-clause-second : goal.returns-clause-second
returns-clause-second c =
    let i = c.in-Some-Some-Some-Some in
    (blocks_back _ _ _ _ _ _ i.a i.b i.c i.d _ _ _ _ _ _ c.in_ok-blocks.ensures.items c.in_ok-sealed.ensures.sealed c.in_ok-sealed.ensures.block i.ensures.items i.ensures'.items i.ensures''.items i.ensures'''.items).1

pub returns-clause-third : goal.returns-clause-third
returns-clause-third c =
    let i = c.in-Some-Some-Some-Some in
    (blocks_back _ _ _ _ _ _ i.a i.b i.c i.d _ _ _ _ _ _ c.in_ok-blocks.ensures.items c.in_ok-sealed.ensures.sealed c.in_ok-sealed.ensures.block i.ensures.items i.ensures'.items i.ensures''.items i.ensures'''.items).2

pub returns-clause-fourth : goal.returns-clause-fourth
returns-clause-fourth c =
    let i = c.in-Some-Some-Some-Some in
    (blocks_back _ _ _ _ _ _ i.a i.b i.c i.d _ _ _ _ _ _ c.in_ok-blocks.ensures.items c.in_ok-sealed.ensures.sealed c.in_ok-sealed.ensures.block i.ensures.items i.ensures'.items i.ensures''.items i.ensures'''.items).3
