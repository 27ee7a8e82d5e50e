-- Operations that are judged one after another, by whether each object is there.
use Rattle.std.proofs.Common.{◌≡◌, ℕ, replicate, ◌<◌, ◌+◌, List, [], ◌∷◌, ◌++◌, Option, Some, None, Result, Ok, Err, refl, ap, sym, ◌∙◌, ◌⊎◌, inl, inr, true, false, Bool, cond, length, take, drop, subst}
use Rattle.std.specs.Prelude.{◌==◌, ◌||◌, ◌&&◌, not, is_some, get_or, option_map, fold, IfOk}
use Rattle.std.proofs.lemmas.List.{append-nil, get_or-replicate, take_more, take-append-drop}
use Rattle.std.specs.Ordering.{nat_cmp}
use Rattle.std.specs.FinMap as finite
use Rattle.base.specs.formats.Limits.{object_count}
use Rattle.base.specs.declared.error.PoolError.{PoolError}
use Rattle.base.specs.declared.error.PoolError.TheVariants.{NoObject, Exists}
use Rattle.base.specs.declared.names.ObjectId.{ObjectId}
use Rattle.base.specs.declared.operation.Op.{Op}
use Rattle.base.specs.declared.operation.Op.TheVariants.{Create, Remove, Write, SetLength, SetName}
use Rattle.base.specs.history.Sequences.{and_then}
use Rattle.base.specs.history.Contents.{Contents, at_object, apply, created, removed, changed, bytes_after_write, resize, with_object, object_after}
use Rattle.base.specs.history.History.{Entry, apply_all, run, replay}
use Rattle.base.proofs.common.Sequences.{parted, joined}
use Rattle.base.proofs.history.Objects.{reach}
use Rattle.base.proofs.history.Projections.{objects_replay}
use Rattle.contents.specs.declared.judging.Presence.{Presence}
use Rattle.contents.specs.declared.judging.Presence.TheVariants as noted
use Rattle.contents.specs.Judging.{TellsAfter, with_name}
use Rattle.contents.specs.Presence.{AreNoted, IsMade, IsMadeFor, is_present_after, is_present_after_all, is_there_noted}
use Rattle.contents.specs.ContentsShown.{Apply}

-- a front that is refused refuses the whole
err_front : {A B : Type 0} (r : Result A PoolError) (f g : A → Result B PoolError) (e : PoolError)
    → ((a : A) → f a ≡ Err e → g a ≡ Err e) → and_then r f ≡ Err e → and_then r g ≡ Err e
err_front (Ok a) f g e more h = more a h
err_front (Err x) f g e more h = h

pub err-append : (before after : List Op) (c : Contents) (e : PoolError) → apply_all before c ≡ Err e → apply_all (before ++ after) c ≡ Err e
err-append [] after c e h = cc
err-append (op ∷ before) after c e h =
    err_front (apply op c) (apply_all before) (apply_all (before ++ after)) e (λ d g. err-append before after d e g) h

-- what operations do after others
pub apply-append : (before after : List Op) (c d : Contents) → apply_all before c ≡ Ok d → apply_all (before ++ after) c ≡ apply_all after d
apply-append [] after c d h = let e : c ≡ d = cc in rw e refl
apply-append (op ∷ before) after c d h =
    let p = parted (apply op c) (apply_all before) d h in
    rw p.1 (apply-append before after p.0 d p.2)

-- a change keeps what is there
kept_there : (b : Bool) (f : List ℕ → List ℕ) (o : Option (List ℕ)) → is_some (cond b (option_map f o) o) ≡ is_some o
kept_there true f None = refl
kept_there true f (Some bytes) = refl
kept_there false f o = refl

-- an object is there after an operation, by what it makes of it
there_after_one : (n : ℕ) (op : Op) (o : Option (List ℕ)) → is_some (object_after n op o) ≡ is_present_after n op (is_some o)
there_after_one n (Create m) o = by (n == m.0)
  where
    by : (b : Bool) → is_some (cond b (Some []) o) ≡ (b || is_some o)
    by true = refl
    by false = refl
there_after_one n (Remove m) o = by (n == m.0)
  where
    by : (b : Bool) → is_some (cond b None o) ≡ (not b && is_some o)
    by true = refl
    by false = refl
there_after_one n (Write m offset bytes) o = kept_there (n == m.0) (bytes_after_write offset bytes) o
there_after_one n (SetLength m size) o = kept_there (n == m.0) (resize size) o
there_after_one n (SetName bytes) o = refl

there_after_all : (n : ℕ) (ops : List Op) (o : Option (List ℕ))
    → is_some (fold (λ before op. object_after n op before) o ops) ≡ is_present_after_all n ops (is_some o)
there_after_all n [] o = refl
there_after_all n (op ∷ ops) o =
    there_after_all n ops (object_after n op o) ∙ ap (is_present_after_all n ops) (there_after_one n op o)

-- an object is there after operations that take place in order, as the last of them that creates or removes it says
pub there_after : (ops : List Op) (c d : Contents) (n : ℕ) → apply_all ops c ≡ Ok d
    → is_some (finite.get d.objects n) ≡ is_present_after_all n ops (is_some (finite.get c.objects n))
there_after ops c d n h =
    let e : Entry = record { group = 0; tx = 0; ops = ops } in
    let whole = objects_replay (e ∷ []) c d n (joined (run e c) (replay []) d d h refl) in
    ap is_some (rw append-nil at whole) ∙ there_after_all n ops (finite.get c.objects n)

pub IfOk-from : {A : Type 0} (r : Result A PoolError) (P : A → Type 0) → ((a : A) → r ≡ Ok a → P a) → IfOk r P
IfOk-from (Ok a) P each = each a refl
IfOk-from (Err e) P each = tt

pub IfOk-at : {A : Type 0} (r : Result A PoolError) (P : A → Type 0) (a : A) → r ≡ Ok a → IfOk r P → P a
IfOk-at (Ok b) P a e h = let f : b ≡ a = cc in subst P f h
IfOk-at (Err x) P a e h = cc

-- before any operation nothing is noted
pub none_noted : (k : ℕ) → k ≡ object_count → AreNoted [] (replicate k noted.AsBefore)
none_noted k is n low present = ap (λ p. is_there_noted p present) (get_or-replicate k n noted.AsBefore noted.AsBefore (subst (λ m. n < m) (sym is) low))

-- what operations make of an object tells whether it is there after them
pub tells_made : (before : List Op) (made : Presence) (objects : finite.FinMap nat_cmp (List ℕ)) (n : ℕ) (there : Bool) → IsMade before n made
    → there ≡ is_there_noted made (is_some (finite.get objects n)) → TellsAfter before objects n there
tells_made before made objects n there are is = λ name.
    let now : Contents = with_name objects name in
    IfOk-from (apply_all before now) (λ (d : Contents). there ≡ is_some (finite.get d.objects n))
    (λ d h. is ∙ are (is_some (finite.get objects n)) ∙ sym (there_after before now d n h))

one_more : (before : List Op) (op : Op) (c d e : Contents) → apply_all before c ≡ Ok d → apply op d ≡ Ok e → Apply (before ++ op ∷ []) c
one_more before op c d e h k = (e, apply-append before (op ∷ []) c d h ∙ joined (apply op d) (apply_all []) e e k refl)

one_refused : (before : List Op) (op : Op) (c d : Contents) (e : PoolError) → apply_all before c ≡ Ok d → apply op d ≡ Err e → apply_all (before ++ op ∷ []) c ≡ Err e
one_refused before op c d e h k = apply-append before (op ∷ []) c d h ∙ rw k refl

-- an operation that takes place if its object is there, and is refused if it is not
record ActsOnPresent (n : ℕ) (op : Op) : Type 0 where
  does : Option (List ℕ) → Result (Option (List ℕ)) PoolError
  is : (d : Contents) → apply op d ≡ at_object n does d
  there : (bytes : List ℕ) → (p : Option (List ℕ)) × (does (Some bytes) ≡ Ok p)
  absent : does None ≡ Err NoObject

changing : (n : ℕ) (op : Op) (f : List ℕ → List ℕ) → ((d : Contents) → apply op d ≡ at_object n (changed f) d) → ActsOnPresent n op
changing n op f e = record { does = changed f; is = e; there = λ bytes. (Some (f bytes), refl); absent = refl }

-- a remove, a write or a set length of this object
abbrev pub NeedsObject : ObjectId → Op → Type 0
NeedsObject id op = (op ≡ Remove id) ⊎ (((offset : ℕ) × (bytes : List ℕ) × (op ≡ Write id offset bytes)) ⊎ ((size : ℕ) × (op ≡ SetLength id size)))

-- what operations make of the object of another is what they make of the object with its number
pub made_of_needed : (before : List Op) (made : Presence) (id : ObjectId) (op : Op) → NeedsObject id op → IsMadeFor before op made → IsMade before id.0 made
made_of_needed before made id op (inl e) h = subst (λ (o : Op). IsMadeFor before o made) e h
made_of_needed before made id op (inr (inl w)) h = subst (λ (o : Op). IsMadeFor before o made) w.2 h
made_of_needed before made id op (inr (inr w)) h = subst (λ (o : Op). IsMadeFor before o made) w.1 h

acts : (id : ObjectId) (op : Op) → NeedsObject id op → ActsOnPresent id.0 op
acts id op (inl e) = record { does = removed; is = λ d. rw e refl; there = λ bytes. (None, refl); absent = refl }
acts id op (inr (inl w)) = changing id.0 op (bytes_after_write w.0 w.1) (λ d. rw w.2 refl)
acts id op (inr (inr w)) = changing id.0 op (resize w.0) (λ d. rw w.1 refl)

-- an operation after others that take place, by whether its object is there after them
module _ (before : List Op) (c : Contents) (done : Apply before c) (id : ObjectId) (op : Op) where
  -- what the operations before it leave of the object
  abbrev now : Option (List ℕ)
  now = finite.get (done.0).objects id.0

  there_is : (b : Bool) → IfOk (apply_all before c) (λ d. b ≡ is_some (finite.get d.objects id.0)) → is_some now ≡ b
  there_is b told = sym (IfOk-at (apply_all before c) (λ (d : Contents). b ≡ is_some (finite.get d.objects id.0)) (done.0) (done.1) told)

  follows : (f : Option (List ℕ) → Result (Option (List ℕ)) PoolError) (p : Option (List ℕ)) → apply op (done.0) ≡ at_object id.0 f (done.0) → f now ≡ Ok p → Apply (before ++ op ∷ []) c
  follows f p is makes = one_more before op c (done.0) (with_object (done.0) id.0 p) (done.1) (is ∙ reach id.0 f (done.0) p makes)

  refused : (f : Option (List ℕ) → Result (Option (List ℕ)) PoolError) (e : PoolError) → apply op (done.0) ≡ at_object id.0 f (done.0) → f now ≡ Err e → apply_all (before ++ op ∷ []) c ≡ Err e
  refused f e is makes = one_refused before op c (done.0) e (done.1) (is ∙ rw makes refl)

  pub create_judged : op ≡ Create id → IfOk (apply_all before c) (λ d. false ≡ is_some (finite.get d.objects id.0)) → Apply (before ++ op ∷ []) c
  create_judged is told = by now refl (there_is false told)
    where
      by : (o : Option (List ℕ)) → now ≡ o → is_some o ≡ false → Apply (before ++ op ∷ []) c
      by None e h = follows created (Some []) (rw is refl) (ap created e)
      by (Some bytes) e h = cc

  pub create_refused : op ≡ Create id → IfOk (apply_all before c) (λ d. true ≡ is_some (finite.get d.objects id.0)) → apply_all (before ++ op ∷ []) c ≡ Err Exists
  create_refused is told = by now refl (there_is true told)
    where
      by : (o : Option (List ℕ)) → now ≡ o → is_some o ≡ true → apply_all (before ++ op ∷ []) c ≡ Err Exists
      by None e h = cc
      by (Some bytes) e h = refused created Exists (rw is refl) (ap created e)

  pub change_judged : NeedsObject id op → IfOk (apply_all before c) (λ d. true ≡ is_some (finite.get d.objects id.0)) → Apply (before ++ op ∷ []) c
  change_judged needs told = by (acts id op needs) now refl (there_is true told)
    where
      by : ActsOnPresent id.0 op → (o : Option (List ℕ)) → now ≡ o → is_some o ≡ true → Apply (before ++ op ∷ []) c
      by a None e h = cc
      by a (Some bytes) e h = let p = a.there bytes in follows a.does p.0 (a.is (done.0)) (ap a.does e ∙ p.1)

  pub change_refused : NeedsObject id op → IfOk (apply_all before c) (λ d. false ≡ is_some (finite.get d.objects id.0)) → apply_all (before ++ op ∷ []) c ≡ Err NoObject
  change_refused needs told = by (acts id op needs) now refl (there_is false told)
    where
      by : ActsOnPresent id.0 op → (o : Option (List ℕ)) → now ≡ o → is_some o ≡ false → apply_all (before ++ op ∷ []) c ≡ Err NoObject
      by a None e h = refused a.does NoObject (a.is (done.0)) (ap a.does e ∙ a.absent)
      by a (Some bytes) e h = cc

-- a new name can always be given
pub name_judged : (before : List Op) (c : Contents) (bytes : List ℕ) (op : Op) → op ≡ SetName bytes → Apply before c → Apply (before ++ op ∷ []) c
name_judged before c bytes op is done = one_more before op c (done.0) (record { name = bytes; objects = (done.0).objects }) (done.1) (rw is refl)

-- one more operation of a list is judged
pub judged_more : (ops : List Op) (i : ℕ) (op : Op) (c : Contents) → i < length ops → op ≡ get_or ops i op → Apply (take i ops ++ op ∷ []) c → Apply (take (i + 1) ops) c
judged_more ops i op c low is h = (h.0, ap (λ l. apply_all l c) (take_more ops i op low ∙ ap (λ (x : Op). take i ops ++ x ∷ []) (sym is)) ∙ h.1)

-- and noted
pub noted_more : (ops : List Op) (i : ℕ) (op : Op) (all : List Presence) → i < length ops → op ≡ get_or ops i op → AreNoted (take i ops ++ op ∷ []) all → AreNoted (take (i + 1) ops) all
noted_more ops i op all low is = subst (λ (l : List Op). AreNoted l all) (sym (take_more ops i op low ∙ ap (λ (x : Op). take i ops ++ x ∷ []) (sym is)))

-- a refusal of one operation is that of the list
pub judged_refused : (ops : List Op) (i : ℕ) (op : Op) (c : Contents) (e : PoolError) → i < length ops → op ≡ get_or ops i op
    → apply_all (take i ops ++ op ∷ []) c ≡ Err e → apply_all ops c ≡ Err e
judged_refused ops i op c e low is h =
    let front : take (i + 1) ops ≡ take i ops ++ op ∷ [] = take_more ops i op low ∙ ap (λ (x : Op). take i ops ++ x ∷ []) (sym is) in
    let whole : ops ≡ (take i ops ++ op ∷ []) ++ drop (i + 1) ops = sym (take-append-drop (i + 1) ops) ∙ ap (λ l. l ++ drop (i + 1) ops) front in
    ap (λ l. apply_all l c) whole ∙ err-append (take i ops ++ op ∷ []) (drop (i + 1) ops) c e h
