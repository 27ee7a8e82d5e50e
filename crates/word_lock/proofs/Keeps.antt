-- Each step keeps the rule of the lock.
use Rattle.std.proofs.Common.{◌≡◌, ℕ, zero, suc, ◌+◌, ◌%◌, ◌<◌, ◌≤◌, ◌≢◌, ◌==◌, if◌then◌else◌, append-nil, ◌⊎◌, inl, inr, List, [], ◌∷◌, ◌++◌, length, get_or, set, sym, refl, ap, ◌∙◌, subst, ⊎_elim, arith, length-set, length-append, get_or-set_same, bit_or, Some, Bool, true, false}
use Rattle.std.specs.Prelude as std
use Rattle.std.proofs.lemmas.Nat.Bits.{bit_at_or, bit_at_lowest}
use Rattle.std.proofs.lemmas.Bool.{eq-eqb, ne_eqb}
use Rattle.std.specs.Bool.{IsTrue}
use Rattle.std.specs.Prelude.{IfSome, IsSome}
use mathlib.Core.Logic.{dite, ◌↔◌}
use mathlib.Core.Option.{Option, none, some, some-injective, some-ne-none}
use native.Mathlib.Decide.{ℕ_discrete}
use lib.ListN.{get_elem?}
use base.Stored.{Gv}
use Rattle.atomic_table.specs.Table.{State, step, keeps, takes, gives, stepped, rest, Allows, Enters, Splits, Joins, Final, Seen}
use Rattle.atomic_table.proofs.Lists.{at_set, set_else, set_here, at_longer}
use Rattle.word_lock.specs.declared.rule.Sight.{Sight}
use Rattle.word_lock.specs.declared.rule.Standing.{Standing}
use Rattle.word_lock.specs.declared.rule.Standing.TheVariants.{Away, Met, Holding, Spent}
use Rattle.word_lock.specs.declared.rule.Turn.{Turn}
use Rattle.word_lock.specs.Turns.{turn, turns_of, IsTurnLine, IsTurnHistory}
use Rattle.word_lock.specs.Kept.{Knows, Kept, Mine, away, holding, met, spent, tried, stays, noted, freed, settled, sat, with_split}

-- ---- the held bit

pub or_held : (n : ℕ) → bit_or n 1 % 2 ≡ 1
or_held n = omega (arith, bit_at_or n 1 0, bit_at_lowest (bit_or n 1), bit_at_lowest n, bit_at_lowest 1)

pub or_even : (n k : ℕ) → k % 2 ≡ 0 → bit_or n k % 2 ≡ n % 2
or_even n k even = omega (arith, bit_at_or n k 0, bit_at_lowest (bit_or n k), bit_at_lowest n, bit_at_lowest k, even)

-- a place that has an element lies in the list
below : {A : Type 0} (l : List A) (i : ℕ) (a : A) → get_elem? l i ≡ some a → i < length l
below [] i a e = absurd (some-ne-none a (sym e))
below (x ∷ xs) zero a e = omega arith
below (x ∷ xs) (suc i) a e = let h = below xs i a e in omega arith

-- an element of a longer list is one of the list before, or stands at its end
at_end : {A : Type 0} (l : List A) (a b : A) (j : ℕ) → get_elem? (l ++ a ∷ []) j ≡ some b → (get_elem? l j ≡ some b) ⊎ ((j ≡ length l) × (a ≡ b))
at_end [] a b zero e = inr (refl, some-injective a b e)
at_end [] a b (suc j) e = absurd (some-ne-none b (sym e))
at_end (x ∷ xs) a b zero e = inl e
at_end (x ∷ xs) a b (suc j) e = ⊎_elim inl (λ t. inr (omega (arith, t.0), t.1)) (at_end xs a b j e)

-- ---- a line of turns

module _ {V : Type 0} where
  longer : (b : Bool) (t : Turn V) (l m r : List (Turn V)) → l ≡ m ++ r → (if b then t ∷ l else l) ≡ (if b then t ∷ m else m) ++ r
  longer true t l m r e = ap (λ (x : List (Turn V)). t ∷ x) e
  longer false t l m r e = e

  turns_of-append : (j : ℕ) (ts us : List (ℕ × Turn V)) → turns_of j (ts ++ us) ≡ turns_of j ts ++ turns_of j us
  turns_of-append j [] us = refl
  turns_of-append j (t ∷ ts) us = longer (t.0 == j) t.1 (turns_of j (ts ++ us)) (turns_of j ts) (turns_of j us) (turns_of-append j ts us)

  -- a turn of the seat is one more of its turns
  turns_of-mine : (j : ℕ) (ts : List (ℕ × Turn V)) (t : Turn V) → turns_of j (ts ++ (j, t) ∷ []) ≡ turns_of j ts ++ t ∷ []
  turns_of-mine j ts t = turns_of-append j ts ((j, t) ∷ []) ∙ ap (λ (b : Bool). turns_of j ts ++ (if b then t ∷ [] else [])) (eq-eqb j j refl)

  -- a turn of another seat is none of its turns
  turns_of-other : (j id : ℕ) (ts : List (ℕ × Turn V)) (t : Turn V) → j ≢ id → turns_of j (ts ++ (id, t) ∷ []) ≡ turns_of j ts
  turns_of-other j id ts t not = turns_of-append j ts ((id, t) ∷ []) ∙ ap (λ (b : Bool). turns_of j ts ++ (if b then t ∷ [] else [])) (ne_eqb id j (λ e. not (sym e))) ∙ append-nil (turns_of j ts)

  -- the line goes on by a turn that takes what was left last
  line_on : (grows : V → V → Type 0) (v : V) (ts : List (ℕ × Turn V)) (w x : V) (id : ℕ) → IsTurnLine grows v ts w → grows w x → IsTurnLine grows v (ts ++ (id, turn w x) ∷ []) x
  line_on grows v [] w x id e more = (e, subst (λ (y : V). grows y x) e more, refl)
  line_on grows v (t ∷ ts) w x id e more = (e.0, e.1, line_on grows t.1.left ts w x id e.2 more)

  -- a line leads to a view that goes on from its first
  line_grows : (grows : V → V → Type 0) → ((a : V) → grows a a) → ((a b c : V) → grows a b → grows b c → grows a c) → (v : V) (ts : List (ℕ × Turn V)) (w : V) → IsTurnLine grows v ts w → grows v w
  line_grows grows same onward v [] w e = subst (λ (y : V). grows v y) (sym e) (same v)
  line_grows grows same onward v (t ∷ ts) w e = onward v t.1.left w e.1 (line_grows grows same onward t.1.left ts w e.2)

-- ---- the steps

module _ {V : Type 0} (grows : V → V → Type 0) (same : (a : V) → grows a a) (onward : (a b c : V) → grows a b → grows b c → grows a c) where
  abbrev K : V → ℕ → ℕ → ℕ → Sight V → Type 0
  K t n h j d = Knows grows t n h j d.seen d.standing

  each : (P : ℕ → Sight V → Type 0) (vs : List (Sight V)) (id : ℕ) (w : Sight V) → P id w → ((j : ℕ) (d : Sight V) → j ≢ id → get_elem? vs j ≡ some d → P j d)
      → (j : ℕ) (d : Sight V) → get_elem? (set vs id w) j ≡ some d → P j d
  each P vs id w mine others j d e =
      ⊎_elim
      (λ (t : (j ≡ id) × (w ≡ d)). subst (λ (x : ℕ × Sight V). P x.0 x.1) (λ i. (sym t.0 i, t.1 i)) mine)
      (λ (t : (j ≢ id) × (get_elem? vs j ≡ some d)). others j d t.0 t.1)
      (at_set vs id j w d e)

  -- what is so of each seat before is so of each where one more seat comes, if it is so of that one
  one_more : (P : ℕ → Sight V → Type 0) (vs : List (Sight V)) (w : Sight V) → ((j : ℕ) (d : Sight V) → get_elem? vs j ≡ some d → P j d) → P (length vs) w → (j : ℕ) (d : Sight V) → get_elem? (vs ++ w ∷ []) j ≡ some d → P j d
  one_more P vs w old new j d at =
      ⊎_elim (old j d) (λ (t : (j ≡ length vs) × (w ≡ d)). subst (λ (x : ℕ × Sight V). P x.0 x.1) (λ i. (sym t.0 i, t.1 i)) new) (at_end vs w d j at)

  -- some seat has the lock, as the seat `holder` of these views
  abbrev Out : List (Sight V) → ℕ → Type 0
  Out vs holder = (d : Sight V) × (get_elem? vs holder ≡ some d) × (d.standing ≡ Holding)

  -- it still has it after another seat's step, and after its own where it goes on to hold it
  out_set : (vs : List (Sight V)) (holder id : ℕ) (b w : Sight V) → get_elem? vs id ≡ some b → (b.standing ≡ Holding → w.standing ≡ Holding) → Out vs holder → Out (set vs id w) holder
  out_set vs holder id b w at keep o =
      dite (ℕ_discrete holder id)
      (λ is. let here : get_elem? vs id ≡ some o.0 = subst (λ (z : ℕ). get_elem? vs z ≡ some o.0) is o.1 in
      let e : b ≡ o.0 = some-injective b o.0 (sym at ∙ here) in
      (w, subst (λ (z : ℕ). get_elem? (set vs id w) z ≡ some w) (sym is) (set_here vs id w (below vs id b at)), keep (ap (λ (x : Sight V). x.standing) e ∙ o.2)))
      (λ other. (o.0, set_else vs id holder w other ∙ o.1, o.2))

  -- where another seat does not hold the lock, it goes on with the truth
  goes_on : (a b : V) (n m h k j : ℕ) → grows a b → (j ≡ h → n % 2 ≡ 1 → ⊥) → (v : V) (st : Standing V) → Knows grows a n h j v st → Knows grows b m k j v st
  goes_on a b n m h k j more not v Away x = onward v a b x more
  goes_on a b n m h k j more not v (Met u) x = (onward v a b x.0 more, onward u a b x.1 more)
  goes_on a b n m h k j more not v Holding x = absurd (not x.0 x.1)
  goes_on a b n m h k j more not v Spent x = tt

  -- what a seat knows rests on the held bit alone
  same_bit : (a : V) (n m h j : ℕ) → m % 2 ≡ n % 2 → (v : V) (st : Standing V) → Knows grows a n h j v st → Knows grows a m h j v st
  same_bit a n m h j e v Away x = x
  same_bit a n m h j e v (Met u) x = x
  same_bit a n m h j e v Holding x = (x.0, e ∙ x.1, x.2)
  same_bit a n m h j e v Spent x = tt

  -- the truth goes on from what a seat that is away has seen
  seen_grows : (t : V) (n h j : ℕ) (d : Sight V) (v : V) (ts us : List (Turn V)) (k : ℕ) → d ≡ away v ts us k → K t n h j d → grows d.seen t
  seen_grows t n h j d v ts us k is = subst (λ (e : Sight V). K t n h j e → grows e.seen t) (sym is) (λ x. x)

  -- a seat with the number 0 is the only one, and has seen the truth
  abbrev Alone : List (Sight V) → Type 0
  Alone vs = (i j : ℕ) (d e : Sight V) → get_elem? vs i ≡ some d → get_elem? vs j ≡ some e → d.kin ≡ 0 → j ≡ i

  abbrev Sees : V → ℕ → Sight V → Type 0
  Sees t j d = d.kin ≡ 0 → d.seen ≡ t

  -- no seat has the number 0
  abbrev HasKin : ℕ → Sight V → Type 0
  HasKin j d = d.kin ≢ 0

  abbrev AllKin : List (Sight V) → Type 0
  AllKin vs = (j : ℕ) (d : Sight V) → get_elem? vs j ≡ some d → HasKin j d

  was : (vs : List (Sight V)) (id : ℕ) (b w : Sight V) → get_elem? vs id ≡ some b → w.kin ≡ b.kin → (k : ℕ) (x : Sight V) → get_elem? (set vs id w) k ≡ some x
      → (y : Sight V) × (get_elem? vs k ≡ some y) × (y.kin ≡ x.kin)
  was vs id b w at kin k x h =
      ⊎_elim {C = (y : Sight V) × (get_elem? vs k ≡ some y) × (y.kin ≡ x.kin)}
      (λ (t : (k ≡ id) × (w ≡ x)). (b, subst (λ (z : ℕ). get_elem? vs z ≡ some b) (sym t.0) at, sym kin ∙ ap (λ (y : Sight V). y.kin) t.1))
      (λ (t : (k ≢ id) × (get_elem? vs k ≡ some x)). (x, t.1, refl))
      (at_set vs id k w x h)

  alone_set : (vs : List (Sight V)) (id : ℕ) (b w : Sight V) → get_elem? vs id ≡ some b → w.kin ≡ b.kin → Alone vs → Alone (set vs id w)
  alone_set vs id b w at kin a i j d e hi hj nk =
      let x = was vs id b w at kin i d hi in
      let y = was vs id b w at kin j e hj in
      a i j x.0 y.0 x.1 y.1 (x.2 ∙ nk)

  alone_none : (vs : List (Sight V)) → AllKin vs → Alone vs
  alone_none vs kinned i j d e hi hj nk = absurd (kinned i d hi nk)

  sees_none : (t : V) (vs : List (Sight V)) → AllKin vs → (j : ℕ) (d : Sight V) → get_elem? vs j ≡ some d → Sees t j d
  sees_none t vs kinned j d at nk = absurd (kinned j d at nk)

  apart_set : (vs : List (Sight V)) (id : ℕ) (b w : Sight V) → get_elem? vs id ≡ some b → w.kin ≡ b.kin → AllKin vs → AllKin (set vs id w)
  apart_set vs id b w at kin old = each HasKin vs id w (λ nk. old id b at (sym kin ∙ nk)) (λ j d _ there. old j d there)

  -- the seat's turns are all that the line has of it
  abbrev Own : List (ℕ × Turn V) → ℕ → Sight V → Type 0
  Own all j d = d.standing ≢ Spent → d.turns ≡ turns_of j all

  -- a number that no seat has yet has no turn
  abbrev Unborn : List (ℕ × Turn V) → List (Sight V) → Type 0
  Unborn all vs = (j : ℕ) → length vs ≤ j → turns_of j all ≡ []

  unborn_set : (all : List (ℕ × Turn V)) (vs : List (Sight V)) (id : ℕ) (w : Sight V) → Unborn all vs → Unborn all (set vs id w)
  unborn_set all vs id w yet j h = yet j (subst (λ (n : ℕ). n ≤ j) (length-set vs id w) h)

  unborn_more : (all : List (ℕ × Turn V)) (vs : List (Sight V)) (w : Sight V) → Unborn all vs → Unborn all (vs ++ w ∷ [])
  unborn_more all vs w yet j h = let n : length (vs ++ w ∷ []) ≡ length vs + 1 = length-append vs (w ∷ []) in yet j (omega arith)

  module _ {T : Type 0} (explains : V → T → Type 0) (first : V) (first_kin : ℕ) where
    abbrev Rule : State (std.Option T) (Sight V) → Type 0
    Rule = Kept explains grows first first_kin

    abbrev word : State (std.Option T) (Sight V) → ℕ
    word s = get_or s.words 0 0

    now_word : (s : State (std.Option T) (Sight V)) (r : Rule s) (n : ℕ) → get_or (set s.words 0 n) 0 0 ≡ n
    now_word s r n = let one = r.one_word in get_or-set_same s.words 0 n 0 (omega arith)

    -- a step that keeps the held bit, the truth and the slot
    unmoved : (s : State (std.Option T) (Sight V)) (r : Rule s) (n id : ℕ) (c : List (ℕ × std.Option T)) (b w : Sight V) → get_elem? s.views id ≡ some b → (b.standing ≡ Holding → w.standing ≡ Holding) → n % 2 ≡ word s % 2 → K r.truth (word s) r.holder id w → Own r.turns id w
        → w.kin ≡ b.kin → Sees r.truth id w → Rule (stepped s 0 n id c w keeps)
    unmoved s r n id c b w at keep bit mine its kin sees =
        let now = now_word s r n in
        let still : get_or (set s.words 0 n) 0 0 % 2 ≡ word s % 2 = ap (λ (z : ℕ). z % 2) now ∙ bit in record {
          truth = r.truth;
          holder = r.holder;
          turns = r.turns;
          line = r.line;
          one_word = length-set s.words 0 n ∙ r.one_word;
          free = λ even. r.free (sym still ∙ even);
          out = λ odd. out_set s.views r.holder id b w at keep (r.out (sym still ∙ odd));
          each_seat = each (K r.truth (get_or (set s.words 0 n) 0 0) r.holder) s.views id w (same_bit r.truth (word s) _ r.holder id still w.seen w.standing mine)
              (λ j d _ at. same_bit r.truth (word s) _ r.holder j still d.seen d.standing (r.each_seat j d at));
          own = each (Own r.turns) s.views id w its (λ j d _ at. r.own j d at);
          alone = alone_set s.views id b w at kin r.alone;
          apart = λ many. apart_set s.views id b w at kin (r.apart many);
          sees = each (Sees r.truth) s.views id w sees (λ j d _ at. r.sees j d at);
          unborn = unborn_set r.turns s.views id w r.unborn;
        }

    pub stays_put : (slots id : ℕ) (me : Mine T V) (f : ℕ → ℕ) (k : ℕ) → ((n : ℕ) → f n % 2 ≡ n % 2) → Allows Rule slots id me 0 f (stays (step slots 0 k 0 none) me)
    stays_put slots id me f k bit s r _ at _ = (me.0, keeps, tt, unmoved s r (f (word s)) id me.1 me.0 me.0 at (λ h. h) (bit (word s)) (r.each_seat id me.0 at) (r.own id me.0 at) refl (r.sees id me.0 at), refl)

    -- while the word is odd another seat has the lock, so this one is not the only one
    not_alone : (s : State (std.Option T) (Sight V)) (r : Rule s) (id : ℕ) (v : V) (ts us : List (Turn V)) (k : ℕ) → get_elem? s.views id ≡ some (away v ts us k) → word s % 2 ≡ 1 → k ≡ 0 → ⊥
    not_alone s r id v ts us k at odd nk =
        let o = r.out odd in
        let is : r.holder ≡ id = r.alone id r.holder (away v ts us k) o.0 at o.1 nk in
        let here : get_elem? s.views id ≡ some o.0 = subst (λ (z : ℕ). get_elem? s.views z ≡ some o.0) is o.1 in
        let e : away v ts us k ≡ o.0 = some-injective (away v ts us k) o.0 (sym at ∙ here) in
        let standing : Away ≡ Holding = ap (λ (d : Sight V). d.standing) e ∙ o.2 in absurd (cc)

    tries_away : (slots id : ℕ) (v : V) (ts us : List (Turn V)) (k : ℕ) → Allows Rule slots id (away v ts us k, []) 0 (λ n. bit_or n 1) (tried explains grows (step slots 0 1 0 none) (away v ts us k, []))
    tries_away slots id v ts us k s r _ at _ =
        let n : ℕ = word s in
        dite (ℕ_discrete (n % 2) 0)
        (λ even. let x = r.free even in let w : Sight V = holding r.truth ts us k in let m : ℕ = bit_or n 1 in let now = now_word s r m in (
          w,
          takes 0 (Some x.0),
          ap (λ (l : List (Option (std.Option T))). get_elem? l 0) x.1,
          record {
            truth = r.truth;
            holder = id;
            turns = r.turns;
            line = r.line;
            one_word = length-set s.words 0 m ∙ r.one_word;
            free = λ e. let odd : get_or (set s.words 0 m) 0 0 % 2 ≡ 1 = ap (λ (z : ℕ). z % 2) now ∙ or_held n in absurd (omega arith);
            out = λ _. (w, set_here s.views id w (below s.views id (away v ts us k) at), refl);
            each_seat = each (K r.truth (get_or (set s.words 0 m) 0 0) id) s.views id w (refl, ap (λ (z : ℕ). z % 2) now ∙ or_held n, refl)
                (λ j d _ there. goes_on r.truth r.truth n (get_or (set s.words 0 m) 0 0) r.holder id j (same r.truth) (λ _ odd. absurd (omega arith)) d.seen d.standing (r.each_seat j d there));
            own = each (Own r.turns) s.views id w (λ _. r.own id (away v ts us k) at (λ e. absurd (cc))) (λ j d _ there. r.own j d there);
            alone = alone_set s.views id (away v ts us k) w at refl r.alone;
            apart = λ many. apart_set s.views id (away v ts us k) w at refl (r.apart many);
            sees = each (Sees r.truth) s.views id w (λ _. refl) (λ j d _ there. r.sees j d there);
            unborn = unborn_set r.turns s.views id w r.unborn;
          },
          ((λ odd. absurd (omega arith)), (λ _. (x.0, refl, r.each_seat id (away v ts us k) at, x.2, λ nk. sym (r.sees id (away v ts us k) at nk)))),
        ))
        (λ odd. let one : n % 2 ≡ 1 = omega arith in
        (away v ts us k, keeps, tt, unmoved s r (bit_or n 1) id [] (away v ts us k) (away v ts us k) at (λ h. h) (or_held n ∙ sym one) (r.each_seat id (away v ts us k) at) (r.own id (away v ts us k) at) refl (r.sees id (away v ts us k) at), ((λ one_now. (refl, not_alone s r id v ts us k at one)), (λ even. absurd (odd even)))))

    pub tries : (slots id : ℕ) (me : Mine T V) (v : V) (ts us : List (Turn V)) (k : ℕ) → me ≡ (away v ts us k, []) → Allows Rule slots id me 0 (λ n. bit_or n 1) (tried explains grows (step slots 0 1 0 none) me)
    tries slots id me v ts us k is = subst (λ (m : Mine T V). Allows Rule slots id m 0 (λ n. bit_or n 1) (tried explains grows (step slots 0 1 0 none) m)) (sym is) (tries_away slots id v ts us k)

    notes_holding : (code : V → Gv) (slots id : ℕ) (v next : V) (ts us : List (Turn V)) (k : ℕ) (c : List (ℕ × std.Option T)) → grows v next
        → Allows Rule slots id (holding v ts us k, c) 0 (λ n. bit_or n 0) (noted code (code next) (step slots 0 0 0 none) (holding v ts us k, c))
    notes_holding code slots id v next ts us k c more s r _ at _ =
        let n : ℕ = word s in
        let mine = r.each_seat id (holding v ts us k) at in
        let w : Sight V = holding next (ts ++ turn v next ∷ []) us k in
        let all : List (ℕ × Turn V) = r.turns ++ (id, turn v next) ∷ [] in
        let m : ℕ = bit_or n 0 in
        let now = now_word s r m in
        let bit : get_or (set s.words 0 m) 0 0 % 2 ≡ 1 = ap (λ (z : ℕ). z % 2) now ∙ (or_even n 0 refl ∙ mine.1) in (
          w,
          keeps,
          tt,
          record {
            truth = next;
            holder = id;
            turns = all;
            line = line_on grows first r.turns v next id (subst (IsTurnLine grows first r.turns) (sym mine.2) r.line) more;
            one_word = length-set s.words 0 m ∙ r.one_word;
            free = λ e. absurd (omega arith);
            out = λ _. (w, set_here s.views id w (below s.views id (holding v ts us k) at), refl);
            each_seat = each (K next (get_or (set s.words 0 m) 0 0) id) s.views id w (refl, bit, refl)
                (λ j d other there. goes_on r.truth next n (get_or (set s.words 0 m) 0 0) r.holder id j (subst (λ (t : V). grows t next) mine.2 more) (λ h _. other (h ∙ sym mine.0)) d.seen d.standing (r.each_seat j d there));
            own = each (Own all) s.views id w
                (λ _. ap (λ (l : List (Turn V)). l ++ turn v next ∷ []) (r.own id (holding v ts us k) at (λ e. absurd (cc))) ∙ sym (turns_of-mine id r.turns (turn v next)))
                (λ j d other there not. r.own j d there not ∙ sym (turns_of-other j id r.turns (turn v next) other));
            alone = alone_set s.views id (holding v ts us k) w at refl r.alone;
            apart = λ many. apart_set s.views id (holding v ts us k) w at refl (r.apart many);
            sees = each (Sees next) s.views id w (λ _. refl) (λ j d other there nk. absurd (other (sym (r.alone j id d (holding v ts us k) there at nk))));
            unborn = unborn_set all s.views id w (λ j h. let b = below s.views id (holding v ts us k) at in turns_of-other j id r.turns (turn v next) (λ e. absurd (omega arith)) ∙ r.unborn j h);
          },
          (refl, refl),
        )

    pub notes : (code : V → Gv) (slots id : ℕ) (me : Mine T V) (v next : V) (ts us : List (Turn V)) (k : ℕ) (named : Gv) → me.0 ≡ holding v ts us k → named ≡ code next → grows v next → Allows Rule slots id me 0 (λ n. bit_or n 0) (noted code named (step slots 0 0 0 none) me)
    notes code slots id me v next ts us k named is same_name more = subst (λ (x : Sight V × Gv). Allows Rule slots id (x.0, me.1) 0 (λ n. bit_or n 0) (noted code x.1 (step slots 0 0 0 none) (x.0, me.1))) (λ i. (sym is i, sym same_name i)) (notes_holding code slots id v next ts us k me.1 more)

    frees_holding : (slots id : ℕ) (v : V) (ts us : List (Turn V)) (k : ℕ) (x : T) (n put : ℕ) → slots ≡ 1 → n % 2 ≡ 0 → explains v x
        → Allows Rule slots id (holding v ts us k, (0, Some x) ∷ []) 0 (λ _. n) (freed (step slots 0 put 0 none) (holding v ts us k, (0, Some x) ∷ []))
    frees_holding slots id v ts us k x n put one even is s r wide at _ =
        let mine = r.each_seat id (holding v ts us k) at in
        let w : Sight V = away v ts us k in
        let now = now_word s r n in (
          w,
          gives,
          tt,
          record {
            truth = v;
            holder = id;
            turns = r.turns;
            line = subst (IsTurnLine grows first r.turns) (sym mine.2) r.line;
            one_word = length-set s.words 0 n ∙ r.one_word;
            free = λ _. (x, one_set s.homes (some (Some x)) (wide ∙ one), is);
            out = λ odd. let now_even : get_or (set s.words 0 n) 0 0 % 2 ≡ 0 = ap (λ (z : ℕ). z % 2) now ∙ even in absurd (omega arith);
            each_seat = each (K v (get_or (set s.words 0 n) 0 0) id) s.views id w (same v)
                (λ j d other there. goes_on r.truth v (word s) (get_or (set s.words 0 n) 0 0) r.holder id j (subst (λ (t : V). grows t v) mine.2 (same v)) (λ h _. other (h ∙ sym mine.0)) d.seen d.standing (r.each_seat j d there));
            own = each (Own r.turns) s.views id w (λ _. r.own id (holding v ts us k) at (λ e. absurd (cc))) (λ j d _ there. r.own j d there);
            alone = alone_set s.views id (holding v ts us k) w at refl r.alone;
            apart = λ many. apart_set s.views id (holding v ts us k) w at refl (r.apart many);
            sees = each (Sees v) s.views id w (λ _. refl) (λ j d other there nk. absurd (other (sym (r.alone j id d (holding v ts us k) there at nk))));
            unborn = unborn_set r.turns s.views id w r.unborn;
          },
          refl,
        )
      where
        one_set : (l : List (Option (std.Option T))) (y : Option (std.Option T)) → length l ≡ 1 → set l 0 y ≡ y ∷ []
        one_set [] y e = absurd (omega arith)
        one_set (z ∷ []) y e = refl
        one_set (z ∷ z' ∷ zs) y e = absurd (omega arith)

    pub frees : (slots id : ℕ) (me : Mine T V) (v : V) (ts us : List (Turn V)) (k : ℕ) (x : T) (n : ℕ) → slots ≡ 1 → me ≡ (holding v ts us k, (0, Some x) ∷ []) → n % 2 ≡ 0 → explains v x → Allows Rule slots id me 0 (λ _. n) (freed (step slots 0 n 0 none) me)
    frees slots id me v ts us k x n one is even told = subst (λ (m : Mine T V). Allows Rule slots id m 0 (λ _. n) (freed (step slots 0 n 0 none) m)) (sym is) (frees_holding slots id v ts us k x n n one even told)

    only_one : (w : Sight V) (i : ℕ) (d : Sight V) → get_elem? (w ∷ []) i ≡ some d → i ≡ 0
    only_one w zero d e = refl
    only_one w (suc i) d e = absurd (some-ne-none d (sym e))

    -- the lock opens
    pub opens : (x : T) → explains first x → Rule record { words = 0 ∷ []; homes = some (Some x) ∷ []; views = away first [] [] first_kin ∷ [] }
    opens x is = record {
      truth = first;
      holder = 0;
      turns = [];
      line = refl;
      one_word = refl;
      free = λ _. (x, refl, is);
      out = λ odd. absurd (omega arith);
      each_seat = one_more (K first 0 0) [] (away first [] [] first_kin) (λ j d at. absurd (some-ne-none d (sym at))) (same first);
      own = one_more (Own []) [] (away first [] [] first_kin) (λ j d at. absurd (some-ne-none d (sym at))) (λ _. refl);
      alone = λ i j d e hi hj _. only_one (away first [] [] first_kin) j e hj ∙ sym (only_one (away first [] [] first_kin) i d hi);
      sees = one_more (Sees first) [] (away first [] [] first_kin) (λ j d at. absurd (some-ne-none d (sym at))) (λ _. refl);
      apart = λ many. one_more HasKin [] (away first [] [] first_kin) (λ j d at. absurd (some-ne-none d (sym at))) many;
      unborn = λ j h. refl;
    }

    -- a step that changes the views alone
    reseated : (s : State (std.Option T) (Sight V)) (r : Rule s) (vs : List (Sight V)) → (Out s.views r.holder → Out vs r.holder) → ((j : ℕ) (d : Sight V) → get_elem? vs j ≡ some d → K r.truth (word s) r.holder j d × Own r.turns j d) → Unborn r.turns vs
        → AllKin vs → Rule record { words = s.words; homes = s.homes; views = vs }
    reseated s r vs out each_one yet kinned = record {
      truth = r.truth;
      holder = r.holder;
      turns = r.turns;
      line = r.line;
      one_word = r.one_word;
      free = r.free;
      out = λ odd. out (r.out odd);
      each_seat = λ j d at. (each_one j d at).0;
      own = λ j d at. (each_one j d at).1;
      alone = alone_none vs kinned;
      sees = sees_none r.truth vs kinned;
      apart = λ _. kinned;
      unborn = yet;
    }

    -- a new seat comes from the source
    pub sits : (slots : ℕ) → first_kin ≢ 0 → Enters Rule slots 0 (λ n w. sat {T = T} grows (step slots 0 0 0 none) (away first [] [] first_kin, []) n (w, []))
    sits slots many s r _ _ =
        let P : ℕ → Sight V → Type 0 = λ j d. K r.truth (word s) r.holder j d × Own r.turns j d in
        let w : Sight V = away r.truth [] [] 1 in (
          w,
          reseated s r (s.views ++ w ∷ []) (λ o. (o.0, at_longer s.views (w ∷ []) r.holder o.0 o.1, o.2))
              (one_more P s.views w (λ j d at. (r.each_seat j d at, r.own j d at)) (same r.truth, λ _. sym (r.unborn (length s.views) (omega arith))))
              (unborn_more r.turns s.views w r.unborn)
              (one_more HasKin s.views w (r.apart many) (λ nk. absurd (omega (arith, nk)))),
          (refl, line_grows grows same onward first r.turns r.truth r.line),
        )

    -- a new seat has seen as much
    pub splits : (id : ℕ) (d : Sight V) (v : V) (ts us : List (Turn V)) (k : ℕ) → d ≡ away v ts us k → Splits Rule id d (with_split d) (away d.seen [] [] (d.kin + 1))
    splits id d v ts us k is s r at =
        let P : ℕ → Sight V → Type 0 = λ j d. K r.truth (word s) r.holder j d × Own r.turns j d in
        let w : Sight V = away d.seen [] [] (d.kin + 1) in
        let b : Sight V = with_split d in
        let vs : List (Sight V) = set s.views id b in
        let whole : length vs ≡ length s.views = length-set s.views id b in
        let new : grows d.seen r.truth = seen_grows r.truth (word s) r.holder id d v ts us k is (r.each_seat id d at) in
        reseated s r (vs ++ w ∷ []) (λ h. let o = out_set s.views r.holder id d b at (λ h. h) h in (o.0, at_longer vs (w ∷ []) r.holder o.0 o.1, o.2))
        (one_more P vs w (each P s.views id b (r.each_seat id d at, r.own id d at) (λ j x _ h. (r.each_seat j x h, r.own j x h))) (new, λ _. sym (r.unborn (length vs) (omega (arith, whole)))))
        (unborn_more r.turns vs w (unborn_set r.turns s.views id b r.unborn))
        (one_more HasKin vs w (each HasKin s.views id b (λ nk. absurd (omega (arith, nk))) (λ j x other there nk. other (sym (r.alone j id x d there at nk)))) (λ nk. absurd (omega (arith, nk))))

    -- a seat meets another, which is spent
    pub joins : (id : ℕ) (d : Sight V) (other : ℕ) (e : Sight V) (v u blank : V) (ts xs us ys : List (Turn V)) (k l : ℕ) → d ≡ away v ts xs k → e ≡ away u us ys l → Joins Rule id d other e (met d.seen e.seen d.turns (d.taken ++ e.taken ++ e.turns) (d.kin + e.kin)) (spent blank)
    joins id d other e v u blank ts xs us ys k l is that s r at apart there =
        let P : ℕ → Sight V → Type 0 = λ j d. K r.truth (word s) r.holder j d × Own r.turns j d in
        let w : Sight V = met d.seen e.seen d.turns (d.taken ++ e.taken ++ e.turns) (d.kin + e.kin) in
        let vs : List (Sight V) = set s.views id w in
        let here : d.standing ≢ Spent = λ x. let no : away v ts xs k ≡ d = sym is in absurd (cc) in
        let mine : grows d.seen r.truth = seen_grows r.truth (word s) r.holder id d v ts xs k is (r.each_seat id d at) in
        let at_other = ⊎_elim {C = get_elem? s.views other ≡ some e} (λ (t : (other ≡ id) × (w ≡ e)). absurd (apart t.0)) (λ (t : (other ≢ id) × (get_elem? s.views other ≡ some e)). t.1) (at_set s.views id other w e there) in
        let theirs : grows e.seen r.truth = seen_grows r.truth (word s) r.holder other e u us ys l that (r.each_seat other e at_other) in
        reseated s r (set vs other (spent blank))
        (λ h. out_set vs r.holder other e (spent blank) there (λ x. let no : away u us ys l ≡ e = sym that in absurd (cc)) (out_set s.views r.holder id d w at (λ x. let no : away v ts xs k ≡ d = sym is in absurd (cc)) h))
        (each P vs other (spent blank) (tt, λ not. absurd (not refl)) (λ j x _ h. each P s.views id w ((mine, theirs), λ _. r.own id d at here) (λ i y _ k. (r.each_seat i y k, r.own i y k)) j x h))
        (unborn_set r.turns vs other (spent blank) (unborn_set r.turns s.views id w r.unborn))
        (each HasKin vs other (spent blank) (λ nk. absurd (omega (arith, nk)))
        (λ j x _ h. each HasKin s.views id w (λ nk. apart (r.alone id other d e at at_other (omega (arith, nk)))) (λ i y not k nk. not (sym (r.alone i id y d k at nk))) j x h))

    settles_met : (slots id : ℕ) (v u : V) (ts us : List (Turn V)) (k : ℕ) (c : List (ℕ × std.Option T)) → Allows Rule slots id (met v u ts us k, c) 0 (λ n. n) (settled grows (step slots 0 0 0 none) (met v u ts us k, c))
    settles_met slots id v u ts us k c s r _ at _ =
        let mine = r.each_seat id (met v u ts us k) at in (
          away r.truth ts us k,
          keeps,
          tt,
          unmoved s r (word s) id c (met v u ts us k) (away r.truth ts us k) at (λ h. absurd (cc)) refl (same r.truth) (λ _. r.own id (met v u ts us k) at (λ e. absurd (cc))) refl (λ _. refl),
          (refl, λ v' u' ts' us' k' e. (subst (λ (x : V). grows x r.truth) (ap (λ (d : Sight V). d.seen) e) mine.0, subst (λ (x : V). grows x r.truth) (ap (other_of u) e) mine.1)),
        )
      where
        other_of : V → Sight V → V
        other_of u d = go d.standing
          where
            go : Standing V → V
            go (Met x) = x
            go _ = u

    pub settles : (slots id : ℕ) (me : Mine T V) (v u : V) (ts us : List (Turn V)) (k : ℕ) → me.0 ≡ met v u ts us k → Allows Rule slots id me 0 (λ n. n) (settled grows (step slots 0 0 0 none) me)
    settles slots id me v u ts us k is = subst (λ (d : Sight V). Allows Rule slots id (d, me.1) 0 (λ n. n) (settled grows (step slots 0 0 0 none) (d, me.1))) (sym is) (settles_met slots id v u ts us k me.1)

-- ---- for the functions

pub unheld : (b : Bool) (n : ℕ) → (IsTrue b ↔ (n % 2 ≡ 1)) → b ≡ false → n % 2 ≡ 0
unheld b n is off = let t = is.1 in dite (ℕ_discrete (n % 2) 0) (λ e. e) (λ other. let on : false ≡ true = subst IsTrue off (t (omega arith)) in absurd (cc))

pub only_slot : {S : Type 0} (l : List (ℕ × S)) (k : ℕ) (x : S) → l ≡ (k, x) ∷ [] → l ≡ (k, x) ∷ rest l
only_slot {S} l k x e = subst (λ (m : List (ℕ × S)). m ≡ (k, x) ∷ rest m) (sym e) refl

-- a seat that holds no slot, told by its view and its turns
pub as_idle : {T V : Type 0} (me : Mine T V) (v : V) (ts us : List (Turn V)) (k : ℕ) (c : List (ℕ × std.Option T)) → me ≡ (away v ts us k, c) → c ≡ [] → me ≡ (away me.0.seen me.0.turns me.0.taken me.0.kin, [])
as_idle {T} {V} me v ts us k c is empty = subst (λ (m : Mine T V). m ≡ (away m.0.seen m.0.turns m.0.taken m.0.kin, [])) (sym is) (ap (λ (l : List (ℕ × std.Option T)). (away v ts us k, l)) empty)

-- the holder that noted its view and put the value into the slot
pub filled : {T V : Type 0} (before out after : Mine T V) (d e : Sight V) (y x : std.Option T) → before ≡ (d, (0, y) ∷ []) → out ≡ (e, before.1) → after ≡ (out.0, (0, x) ∷ rest out.1) → after ≡ (e, (0, x) ∷ [])
filled {T} {V} before out after d e y x was noted_so put = put ∙ ap (λ (m : Mine T V). (m.0, (0, x) ∷ rest m.1)) (noted_so ∙ ap (λ (m : Mine T V). (e, m.1)) was)

module _ {T V : Type 0} (explains : V → T → Type 0) (grows : V → V → Type 0) (first : V) (first_kin : ℕ) where
  at_first : (l : List ℕ) (m : ℕ) → get_elem? l 0 ≡ some m → get_or l 0 0 ≡ m
  at_first [] m e = absurd (some-ne-none m (sym e))
  at_first (y ∷ ys) m e = some-injective y m e

  -- a table that was closed while the word was even, and the last view of one of its seats
  pub closes : (id : ℕ) (d : Sight V) (v : V) (ts us : List (Turn V)) (k : ℕ) (ws : List ℕ) (xs : List (std.Option T)) (n : ℕ) (o : std.Option T) → d ≡ away v ts us k → Final (Seen (Kept explains grows first first_kin) id d) ws xs
      → get_elem? ws 0 ≡ some n → n % 2 ≡ 0 → get_elem? xs 0 ≡ some o → IfSome o (λ x. (h : V) × explains h x × grows d.seen h × IsTurnHistory grows first id d.turns h × (d.kin ≡ 0 → h ≡ d.seen))
  closes id d v ts us k ws xs n o is f at even there =
      let r : Kept explains grows first first_kin f.0 = f.1.0 in
      let word : get_or f.0.words 0 0 ≡ n = ap (λ (l : List ℕ). get_or l 0 0) f.2 ∙ at_first ws n at in
      let x = r.free (ap (λ (z : ℕ). z % 2) word ∙ even) in
      let same : o ≡ Some x.0 = some-injective o (Some x.0) (sym there ∙ f.4 0 (Some x.0) (ap (λ (l : List (Option (std.Option T))). get_elem? l 0) x.1)) in
      let more : grows d.seen r.truth = subst (λ (e : Sight V). Knows grows r.truth (get_or f.0.words 0 0) r.holder id e.seen e.standing → grows e.seen r.truth) (sym is) (λ k. k) (r.each_seat id d f.1.1) in
      let its : d.turns ≡ turns_of id r.turns = r.own id d f.1.1 (λ e. let no : away v ts us k ≡ d = sym is in absurd (cc)) in
      subst (λ (p : std.Option T). IfSome p (λ x. (h : V) × explains h x × grows d.seen h × IsTurnHistory grows first id d.turns h × (d.kin ≡ 0 → h ≡ d.seen))) (sym same) (r.truth, x.2, more, (r.turns, r.line, its), λ nk. sym (r.sees id d f.1.1 nk))

  -- a table that was closed while the word was even
  pub closes_first : ((a : V) → grows a a) → ((a b c : V) → grows a b → grows b c → grows a c) → (ws : List ℕ) (xs : List (std.Option T)) (n : ℕ) (o : std.Option T) → Final (Kept explains grows first first_kin) ws xs
      → get_elem? ws 0 ≡ some n → n % 2 ≡ 0 → get_elem? xs 0 ≡ some o → IfSome o (λ x. (h : V) × explains h x × grows first h)
  closes_first same onward ws xs n o f at even there =
      let r : Kept explains grows first first_kin f.0 = f.1 in
      let word : get_or f.0.words 0 0 ≡ n = ap (λ (l : List ℕ). get_or l 0 0) f.2 ∙ at_first ws n at in
      let x = r.free (ap (λ (z : ℕ). z % 2) word ∙ even) in
      let same_value : o ≡ Some x.0 = some-injective o (Some x.0) (sym there ∙ f.4 0 (Some x.0) (ap (λ (l : List (Option (std.Option T))). get_elem? l 0) x.1)) in
      subst (λ (p : std.Option T). IfSome p (λ x. (h : V) × explains h x × grows first h)) (sym same_value) (r.truth, x.2, line_grows grows same onward first r.turns r.truth r.line)

  -- and one that is the only seat closes a free table
  pub only_closes : ((a : V) → grows a a) → ((a b c : V) → grows a b → grows b c → grows a c) → (id : ℕ) (d : Sight V) (v : V) (ts us : List (Turn V)) (k : ℕ) (ws : List ℕ) (xs : List (std.Option T)) (n : ℕ) → d ≡ away v ts us k → Final (Seen (Kept explains grows first first_kin) id d) ws xs
      → get_elem? ws 0 ≡ some n → n % 2 ≡ 1 → d.kin ≡ 0 → ⊥
  only_closes same onward id d v ts us k ws xs n is f at odd nk =
      let word : get_or f.0.words 0 0 ≡ n = ap (λ (l : List ℕ). get_or l 0 0) f.2 ∙ at_first ws n at in
      let here : get_elem? f.0.views id ≡ some (away v ts us k) = f.1.1 ∙ ap (λ (x : Sight V). some x) is in
      not_alone grows same onward explains first first_kin f.0 f.1.0 id v ts us k here (ap (λ (z : ℕ). z % 2) word ∙ odd) (ap (λ (x : Sight V). x.kin) (sym is) ∙ nk)

  -- a free table has its value
  pub closes_full : (id : ℕ) (d : Sight V) (ws : List ℕ) (xs : List (std.Option T)) (n : ℕ) (o : std.Option T) → Final (Seen (Kept explains grows first first_kin) id d) ws xs
      → get_elem? ws 0 ≡ some n → n % 2 ≡ 0 → get_elem? xs 0 ≡ some o → IsSome o
  closes_full id d ws xs n o f at even there =
      let r : Kept explains grows first first_kin f.0 = f.1.0 in
      let word : get_or f.0.words 0 0 ≡ n = ap (λ (l : List ℕ). get_or l 0 0) f.2 ∙ at_first ws n at in
      let x = r.free (ap (λ (z : ℕ). z % 2) word ∙ even) in
      let same : o ≡ Some x.0 = some-injective o (Some x.0) (sym there ∙ f.4 0 (Some x.0) (ap (λ (l : List (Option (std.Option T))). get_elem? l 0) x.1)) in
      subst (λ (p : std.Option T). IsSome p) (sym same) refl

pub held_odd : (b : Bool) (n : ℕ) → (IsTrue b ↔ (n % 2 ≡ 1)) → b ≡ true → n % 2 ≡ 1
held_odd b n is on = is.0 on
