-- Records of which one can't take place can't all take place.
use Rattle.std.proofs.Common.{◌≡◌, ℕ, List, [], ◌∷◌, ◌++◌, map, Ok, Err, refl, ap, sym, ◌∙◌}
use Rattle.std.specs.Prelude.{Result}
use Rattle.std.proofs.lemmas.List.{map-append}
use Rattle.base.specs.declared.error.PoolError.{PoolError}
use Rattle.base.specs.tree.Mount.{Placed, apply_records, entry_of_record}
use Rattle.base.specs.history.Contents.{Contents}
use Rattle.base.specs.history.History.{Entry, apply_all, run}
use Rattle.base.specs.history.Sequences.{and_then, in_turn}
use Rattle.base.proofs.common.Sequences.{parted}
use Rattle.log_replay.specs.Laws.{RefusalsAgree}
use Rattle.log_replay.specs.Replays.{IsRecordRefused}

-- steps after others that can be taken
in_turn-after : {X A : Type 0} (step : X → A → Result A PoolError) (xs ys : List X) (a b : A) → in_turn step xs a ≡ Ok b → in_turn step (xs ++ ys) a ≡ in_turn step ys b
in_turn-after step [] ys a b h = let same : a ≡ b = cc in rw same refl
in_turn-after step (x ∷ xs) ys a b h =
    let p = parted (step x a) (in_turn step xs) b h in
    rw p.1 (in_turn-after step xs ys p.0 b p.2)

pub refused_records : (records : List Placed) (synced : Contents) (address : ℕ) (is : IsRecordRefused records synced address) → apply_records records synced ≡ Err is.error
refused_records records synced address is =
    let entry : Placed → Entry = λ p. entry_of_record p.logged in
    ap (λ rs. in_turn run (map entry rs) synced) is.split
    ∙ ap (λ es. in_turn run es synced) (map-append entry is.before (is.refused ∷ is.after))
    ∙ in_turn-after run (map entry is.before) (map entry (is.refused ∷ is.after)) synced is.reached is.reaches
    ∙ ap (λ r. and_then r (in_turn run (map entry is.after))) is.refuses

-- so no contents are reached
pub none_reached : (records : List Placed) (synced after : Contents) (address : ℕ) → IsRecordRefused records synced address → apply_records records synced ≡ Ok after → ⊥
none_reached records synced after address is reached = let none : Ok after ≡ Err is.error = sym reached ∙ refused_records records synced address is in cc

head-same : {x y : Placed} {xs ys : List Placed} → x ∷ xs ≡ y ∷ ys → x ≡ y
head-same {x} {y} {xs} {ys} same = cc

tail-same : {x y : Placed} {xs ys : List Placed} → x ∷ xs ≡ y ∷ ys → xs ≡ ys
tail-same {x} {y} {xs} {ys} same = cc

-- a record that is refused doesn't take place
first_differs : (r x : Placed) (c d after : Contents) (e : PoolError) → r ≡ x → apply_records [] c ≡ Ok d → apply_all r.logged.ops d ≡ Err e → run (entry_of_record x.logged) c ≡ Ok after → ⊥
first_differs r x c d after e same here refuses takes =
    let is : c ≡ d = cc in
    let none : Ok after ≡ Err e = sym takes ∙ ap (λ (p : Placed). apply_all p.logged.ops c) (sym same) ∙ ap (apply_all r.logged.ops) is ∙ refuses in
    cc

-- the first record that can't take place is one alone
same_first : (b₁ b₂ a₁ a₂ : List Placed) (r₁ r₂ : Placed) (c d₁ d₂ : Contents) (e₁ e₂ : PoolError) → b₁ ++ r₁ ∷ a₁ ≡ b₂ ++ r₂ ∷ a₂
    → apply_records b₁ c ≡ Ok d₁ → apply_all r₁.logged.ops d₁ ≡ Err e₁ → apply_records b₂ c ≡ Ok d₂ → apply_all r₂.logged.ops d₂ ≡ Err e₂ → r₂.address ≡ r₁.address
same_first [] [] a₁ a₂ r₁ r₂ c d₁ d₂ e₁ e₂ same goes₁ stops₁ goes₂ stops₂ = ap (λ (p : Placed). p.address) (sym (head-same same))
same_first [] (x ∷ b₂) a₁ a₂ r₁ r₂ c d₁ d₂ e₁ e₂ same goes₁ stops₁ goes₂ stops₂ =
    let p = parted (run (entry_of_record x.logged) c) (in_turn run (map (λ (q : Placed). entry_of_record q.logged) b₂)) d₂ goes₂ in
    absurd (first_differs r₁ x c d₁ p.0 e₁ (head-same same) goes₁ stops₁ p.1)
same_first (x ∷ b₁) [] a₁ a₂ r₁ r₂ c d₁ d₂ e₁ e₂ same goes₁ stops₁ goes₂ stops₂ =
    let p = parted (run (entry_of_record x.logged) c) (in_turn run (map (λ (q : Placed). entry_of_record q.logged) b₁)) d₁ goes₁ in
    absurd (first_differs r₂ x c d₂ p.0 e₂ (sym (head-same same)) goes₂ stops₂ p.1)
same_first (x ∷ b₁) (y ∷ b₂) a₁ a₂ r₁ r₂ c d₁ d₂ e₁ e₂ same goes₁ stops₁ goes₂ stops₂ =
    let p = parted (run (entry_of_record x.logged) c) (in_turn run (map (λ (q : Placed). entry_of_record q.logged) b₁)) d₁ goes₁ in
    let q = parted (run (entry_of_record y.logged) c) (in_turn run (map (λ (q : Placed). entry_of_record q.logged) b₂)) d₂ goes₂ in
    let met : p.0 ≡ q.0 = let is : Ok p.0 ≡ Ok q.0 = sym p.1 ∙ ap (λ (z : Placed). run (entry_of_record z.logged) c) (head-same same) ∙ q.1 in cc in
    same_first b₁ b₂ a₁ a₂ r₁ r₂ p.0 d₁ d₂ e₁ e₂ (tail-same same) p.2 stops₁ (rw met q.2) stops₂

pub refusals_agree : RefusalsAgree
refusals_agree records synced address is = (λ after reached. none_reached records synced after address is reached, λ other too. one other too)
  where
    one : (other : ℕ) → IsRecordRefused records synced other → other ≡ address
    one other too =
        sym too.address_is
        ∙ same_first is.before too.before is.after too.after is.refused too.refused synced is.reached too.reached is.error too.error (sym is.split ∙ too.split) is.reaches is.refuses too.reaches too.refuses
        ∙ is.address_is
