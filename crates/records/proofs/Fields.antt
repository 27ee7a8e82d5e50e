-- A field that is read is the field that was written, and what was written is read again.
use Rattle.std.proofs.Common.{◌≡◌, ℕ, ◌+◌, ◌^◌, ◌<◌, ◌≤◌, Bool, true, false, cond, ltb, List, ◌++◌, length, get_or, take, drop, Option, Some, None, refl, sym, ap, subst, ◌∙◌, append_assoc, arith, inl, inr}
use Rattle.std.specs.Int.{Width, w16, w32, w64, byte_len, from_le_bytes, to_le_bytes}
use Rattle.std.proofs.lemmas.Bool.{cases_lt, ltb-false, le-ltb}
use Rattle.std.proofs.lemmas.List.{take_at, drop_at, take-append-drop, length-append, length-take, get_or-drop, get_or-take, get_or_past}
use Rattle.std.proofs.lemmas.Nat.{le_bytes_2, le_bytes_4, le_bytes_8, from_le_bytes-to_le_bytes_2, from_le_bytes-to_le_bytes_4, from_le_bytes-to_le_bytes_8}
use Rattle.records.specs.Reading.{◌>>=◌, number_in, split_at, string_in}

abbrev pub IsBytes : List ℕ → Type 0
IsBytes bytes = (i : ℕ) → get_or bytes i 0 < 256

IsBytes-drop : (n : ℕ) (bytes : List ℕ) → IsBytes bytes → IsBytes (drop n bytes)
IsBytes-drop n bytes h i = rw get_or-drop (h (n + i))

pub IsBytes-take : (n : ℕ) (bytes : List ℕ) → IsBytes bytes → IsBytes (take n bytes)
IsBytes-take n bytes h i =
    elim (cases_lt i n) [
      | inl lt ↦ rw (get_or-take n bytes i 0 lt) (h i)
      | inr le ↦ rw (get_or_past (take n bytes) i 0 (omega (arith, length-take n bytes))) (omega arith)
    ]

-- the value of a step that did not fail
pub bind_some : {A B : Type 0} (r : Option A) (f : A → Option B) (y : B) → (r >>= f) ≡ Some y → (x : A) × (r ≡ Some x) × (f x ≡ Some y)
bind_some (Some x) f y e = (x, refl, e)
bind_some None f y e = absurd cc

-- a step that gave this value
pub bind-some : {A B : Type 0} (r : Option A) (f : A → Option B) (x : A) → r ≡ Some x → (r >>= f) ≡ f x
bind-some r f x e = ap (λ (o : Option _). o >>= f) e

-- a test that did not fail
pub guard_some : {A : Type 0} (b : Bool) (x y : A) → cond b None (Some x) ≡ Some y → (b ≡ false) × (x ≡ y)
guard_some true x y e = absurd cc
guard_some false x y e = (refl, cc)

abbrev some : {A : Type 0} → A → Option A
some x = Some x

pub some_is : {A : Type 0} (x y : A) → some x ≡ some y → x ≡ y
some_is x y e = cc

-- what a reader took from the front
pub record Takes (bytes text rest : List ℕ) : Type 0 where
  pub parts : bytes ≡ text ++ rest
  pub rest_fits : IsBytes rest

pub Takes-then : (a x b y c : List ℕ) → Takes a x b → Takes b y c → Takes a (x ++ y) c
Takes-then a x b y c p q = record { parts = p.parts ∙ ap (λ (t : List ℕ). x ++ t) q.parts ∙ sym (append_assoc x y c); rest_fits = q.rest_fits }

-- numbers of a width
pub record IsWide (w : Width) (limit : ℕ) : Type 0 where
  pub long : (n : ℕ) → length (to_le_bytes w n) ≡ byte_len w
  pub back : (bytes : List ℕ) → length bytes ≡ byte_len w → IsBytes bytes → to_le_bytes w (from_le_bytes w bytes) ≡ bytes
  pub again : (n : ℕ) → n < limit → from_le_bytes w (to_le_bytes w n) ≡ n
  pub below : (bytes : List ℕ) → IsBytes bytes → from_le_bytes w bytes < limit

pub wide16 : IsWide w16 (2 ^ 16)
wide16 = record {
  long = λ n. refl;
  back = λ bytes long fits. le_bytes_2 bytes _ long fits refl;
  again = λ n lt. from_le_bytes-to_le_bytes_2 n lt;
  below = λ bytes fits. omega (arith, fits 0, fits 1);
}

pub wide32 : IsWide w32 (2 ^ 32)
wide32 = record {
  long = λ n. refl;
  back = λ bytes long fits. le_bytes_4 bytes _ long fits refl;
  again = λ n lt. from_le_bytes-to_le_bytes_4 n lt;
  below = λ bytes fits. omega (arith, fits 0, fits 1, fits 2, fits 3);
}

pub wide64 : IsWide w64 (2 ^ 64)
wide64 = record {
  long = λ n. refl;
  back = λ bytes long fits. le_bytes_8 bytes _ long fits refl;
  again = λ n lt. from_le_bytes-to_le_bytes_8 n lt;
  below = λ bytes fits. omega (arith, fits 0, fits 1, fits 2, fits 3, fits 4, fits 5, fits 6, fits 7);
}

pub number_takes : (w : Width) (limit : ℕ) (wide : IsWide w limit) (bytes : List ℕ) (n : ℕ) (rest : List ℕ) → IsBytes bytes → number_in w bytes ≡ Some (n, rest) → Takes bytes (to_le_bytes w n) rest × (n < limit)
number_takes w limit wide bytes n rest fits e =
    let g = guard_some (ltb (length bytes) (byte_len w)) (from_le_bytes w (take (byte_len w) bytes), drop (byte_len w) bytes) (n, rest) e in
    let long : byte_len w ≤ length bytes = ltb-false _ _ g.0 in
    let n-is : from_le_bytes w (take (byte_len w) bytes) ≡ n = ap (λ (p : ℕ × List ℕ). p.0) g.1 in
    let rest-is : drop (byte_len w) bytes ≡ rest = ap (λ (p : ℕ × List ℕ). p.1) g.1 in
    let front : to_le_bytes w n ≡ take (byte_len w) bytes = rw (← n-is) (wide.back (take (byte_len w) bytes) (omega (arith, length-take (byte_len w) bytes)) (IsBytes-take (byte_len w) bytes fits)) in
    (record { parts = rw (front, ← rest-is) (sym (take-append-drop (byte_len w) bytes)); rest_fits = rw (← rest-is) (IsBytes-drop (byte_len w) bytes fits) }, rw (← n-is) (wide.below (take (byte_len w) bytes) (IsBytes-take (byte_len w) bytes fits)))

pub number_again : (w : Width) (limit : ℕ) (wide : IsWide w limit) (n : ℕ) (rest : List ℕ) → n < limit → number_in w (to_le_bytes w n ++ rest) ≡ Some (n, rest)
number_again w limit wide n rest lt =
    let long = wide.long n in
    let enough : ltb (length (to_le_bytes w n ++ rest)) (byte_len w) ≡ false = le-ltb _ _ (omega (arith, length-append (to_le_bytes w n) rest)) in
    rw (enough, take_at (to_le_bytes w n) rest (byte_len w) long, drop_at (to_le_bytes w n) rest (byte_len w) long, wide.again n lt) refl

-- so many bytes
pub split_takes : (count : ℕ) (bytes front rest : List ℕ) → IsBytes bytes → split_at count bytes ≡ Some (front, rest) → Takes bytes front rest × (length front ≡ count) × IsBytes front
split_takes count bytes front rest fits e =
    let g = guard_some (ltb (length bytes) count) (take count bytes, drop count bytes) (front, rest) e in
    let enough : count ≤ length bytes = ltb-false _ _ g.0 in
    let long : length (take count bytes) ≡ count = omega (arith, length-take count bytes) in
    let takes : Takes bytes (take count bytes) (drop count bytes) = record { parts = sym (take-append-drop count bytes); rest_fits = IsBytes-drop count bytes fits } in
    subst (λ (p : List ℕ × List ℕ). Takes bytes p.0 p.1 × (length p.0 ≡ count) × IsBytes p.0) g.1 (takes, long, IsBytes-take count bytes fits)

pub split_again : (count : ℕ) (front rest : List ℕ) → length front ≡ count → split_at count (front ++ rest) ≡ Some (front, rest)
split_again count front rest long =
    let enough : ltb (length (front ++ rest)) count ≡ false = le-ltb _ _ (omega (arith, length-append front rest)) in
    rw (enough, take_at front rest count long, drop_at front rest count long) refl

-- bytes after their number
abbrev pub string : List ℕ → List ℕ
string bytes = to_le_bytes w32 (length bytes) ++ bytes

pub string_takes : (bytes text rest : List ℕ) → IsBytes bytes → string_in bytes ≡ Some (text, rest) → Takes bytes (string text) rest
unfolding string_in
string_takes bytes text rest fits e =
    let b = bind_some (number_in w32 bytes) (λ count. split_at count.0 count.1) (text, rest) e in
    let n = b.0 in
    let t = number_takes w32 (2 ^ 32) wide32 bytes n.0 n.1 fits b.1 in
    let s = split_takes n.0 n.1 text rest t.0.rest_fits b.2 in
    let both = Takes-then bytes (to_le_bytes w32 n.0) n.1 text rest t.0 s.0 in
    subst (λ (k : ℕ). Takes bytes (to_le_bytes w32 k ++ text) rest) (sym s.1) both

pub string_again : (text rest : List ℕ) → length text < 2 ^ 32 → string_in (string text ++ rest) ≡ Some (text, rest)
unfolding string_in
string_again text rest lt =
    bind-some (number_in w32 (string text ++ rest)) (λ count. split_at count.0 count.1) (length text, text ++ rest) (number_again w32 (2 ^ 32) wide32 (length text) (text ++ rest) lt)
    ∙ split_again (length text) text rest refl
