-- Parts that are appended one after the other have room, each after those before it.
use Rattle.std.proofs.Common.{◌≡◌, append_assoc, ℕ, ◌+◌, ◌*◌, ◌<◌, ◌≤◌, List, [], ◌∷◌, ◌++◌, length, length-append, get_or, take, Option, Some, None, refl, sym, ap, ◌∙◌, arith}
use Rattle.std.specs.Prelude.{IfNone}
use Rattle.std.specs.List.{flat_map}
use Rattle.std.specs.Global.{Vec}
use Rattle.std.proofs.lemmas.List.{flat_map_more, length-take-le, take_more}
use Rattle.std.proofs.lemmas.List.Folds.{length-flat_map-take}
use Rattle.records.specs.Writing.{AppendsBytes, HasRoomFor}
use Rattle.frames.specs.Limits.{max_frame}
use Rattle.frames.specs.Answers.{bytes_of_answer, bytes_of_listed}
use Rattle.frames.specs.declared.answer.Answer.{Answer}
use Rattle.frames.specs.declared.listing.Listed.{Listed}

pub has_room : {X : Type 0} (f : X → List ℕ) (xs : List X) (i : ℕ) (x : X) → i < length xs → x ≡ get_or xs i x → (first out : Vec ℕ)
    → HasRoomFor first (length (flat_map f xs)) → AppendsBytes first out (flat_map f (take i xs)) → HasRoomFor out (length (f x))
has_room f xs i x below is first out room so_far =
    let all = length-flat_map-take f xs i x below in
    let this : length (f (get_or xs i x)) ≡ length (f x) = ap (λ (y : _). length (f y)) (sym is) in
    let long = so_far.len in
    let kept = so_far.room in
    omega (arith, all, this)

-- the bytes of objects that are listed
pub length-listed : (listed : List Listed) → length (flat_map bytes_of_listed listed) ≡ 12 * length listed
length-listed [] = refl
length-listed (l ∷ ls) = let others = length-listed ls in omega (arith, length-append (bytes_of_listed l) (flat_map bytes_of_listed ls))

-- answers are no more than their bytes
pub few_answers : (answers : List Answer) → length answers ≤ length (flat_map bytes_of_answer answers)
few_answers [] = omega arith
few_answers (x ∷ xs) = let others = few_answers xs in omega (arith, length-append (bytes_of_answer x) (flat_map bytes_of_answer xs))

pub ruleset sizes = (length-listed)

pub listed_have_room : (listed : List Listed) (i : ℕ) → i < length listed → (first out : Vec ℕ) → HasRoomFor first (length (flat_map bytes_of_listed listed)) → AppendsBytes first out (flat_map bytes_of_listed (take i listed)) → HasRoomFor out 12
listed_have_room listed i below first out room so_far =
    let long = so_far.len in
    let kept = so_far.room in
    let few : length (take i listed) ≡ i = length-take-le i listed (omega arith) in
    omega (arith, length-listed listed, length-listed (take i listed), few)

-- one part has no more bytes than all
pub is_small : {X : Type 0} (f : X → List ℕ) (xs : List X) (i : ℕ) (x : X) → i < length xs → x ≡ get_or xs i x → length (flat_map f xs) ≤ max_frame → length (f x) ≤ max_frame
is_small f xs i x below is small =
    let all = length-flat_map-take f xs i x below in
    let this : length (f (get_or xs i x)) ≡ length (f x) = ap (λ (y : _). length (f y)) (sym is) in
    omega (arith, all, this)

-- so many parts and this one are too many, and so are all
pub are_large : {X : Type 0} (f : X → List ℕ) (xs : List X) (i size : ℕ) (x : X) → i < length xs → x ≡ get_or xs i x → size ≡ 12 + length (flat_map f (take i xs))
    → max_frame < size + length (f x) → max_frame < 12 + length (flat_map f xs)
are_large f xs i size x below is so_far large =
    let all = length-flat_map-take f xs i x below in
    let this : length (f (get_or xs i x)) ≡ length (f x) = ap (λ (y : _). length (f y)) (sym is) in
    omega (arith, all, this)

pub if_none : {X : Type 0} {P : Type 0} (r : Option X) → P → IfNone r P
if_none None p = p
if_none (Some x) p = tt

-- one more part
pub one_more : {X : Type 0} (f : X → List ℕ) (xs : List X) (i : ℕ) (x : X) → i < length xs → x ≡ get_or xs i x → (old middle new : List ℕ)
    → middle ≡ old ++ flat_map f (take i xs) → new ≡ middle ++ f x → new ≡ old ++ flat_map f (take (i + 1) xs)
one_more f xs i x below is old middle new so_far added =
    let end : take (i + 1) xs ≡ take i xs ++ x ∷ [] = take_more xs i x below ∙ ap (λ (y : _). take i xs ++ y ∷ []) (sym is) in
    added ∙ ap (λ (l : List ℕ). l ++ f x) so_far ∙ flat_map_more f old (take i xs) x ∙ ap (λ (l : List _). old ++ flat_map f l) (sym end)

-- two parts, one after the other
pub appends_both : (a b c : Vec ℕ) (bs cs : List ℕ) → AppendsBytes a b bs → AppendsBytes b c cs → AppendsBytes a c (bs ++ cs)
appends_both a b c bs cs p q =
    let one = p.len in
    let two = q.len in
    let least = p.room in
    let more = q.room in
    record { items = q.items ∙ ap (λ (l : List ℕ). l ++ cs) p.items ∙ append_assoc a.items bs cs; len = omega (arith, one, two, length-append bs cs); room = omega (arith, least, more) }
