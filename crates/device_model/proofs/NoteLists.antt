-- Lists of notes, and the bytes that their writes leave.
use Rattle.std.proofs.Common.{◌≡◌, ℕ, suc, ◌+◌, ◌-◌, ◌<◌, ◌≤◌, List, [], ◌∷◌, ◌++◌, length, get_or, take, drop, set, refl, sym, ◌∙◌, ap, arith, append_assoc, length-append, length-drop}
use Rattle.std.proofs.lemmas.List.{get_or_at, take_more, drop_more, take_all, set_at, length-take-le, get_or-drop}
use Rattle.base.specs.declared.piece.Piece.{Piece}
use Rattle.device_model.specs.declared.notes.Note.{Note}
use Rattle.base.specs.disk.Disk.{put}
use Rattle.base.specs.disk.Crashes.{piece_at}
use Rattle.device_model.specs.Notes.{undone, with_piece, with_pieces, ended, Closes}

pub undone-push : (ns : List Note) (n : Note) (bytes : List ℕ) → undone (ns ++ n ∷ []) bytes ≡ undone ns (put n.place n.old bytes)
undone-push [] n bytes = refl
undone-push (m ∷ ns) n bytes = ap (λ (l : List ℕ). put m.place m.old l) (undone-push ns n bytes)

pub with_pieces-push : (pieces : List Piece) (i : ℕ) (ns : List Note) (n : Note) → with_pieces pieces i (ns ++ n ∷ []) ≡ with_pieces pieces i ns ++ with_piece (piece_at pieces (i + length ns)) n ∷ []
with_pieces-push pieces i [] n = let at : i ≡ i + 0 = omega arith in ap (λ (k : ℕ). with_piece (piece_at pieces k) n ∷ []) at
with_pieces-push pieces i (m ∷ ns) n =
    let at : i + 1 + length ns ≡ i + suc (length ns) = omega arith in
    ap (λ (l : List Note). with_piece (piece_at pieces i) m ∷ l) (with_pieces-push pieces (i + 1) ns n ∙ ap (λ (k : ℕ). with_pieces pieces (i + 1) ns ++ with_piece (piece_at pieces k) n ∷ []) at)

pub length-with_pieces : (pieces : List Piece) (i : ℕ) (ns : List Note) → length (with_pieces pieces i ns) ≡ length ns
length-with_pieces pieces i [] = refl
length-with_pieces pieces i (n ∷ ns) = ap suc (length-with_pieces pieces (i + 1) ns)

-- the newest note of some is the one at the end
pub closes_newest : (settled : ℕ) (notes : List Note) (n : Note) → settled < length notes → n ≡ get_or notes (length notes - 1) n → Closes settled notes (set notes (length notes - 1) (ended n))
closes_newest settled notes n below is = record {
  none = λ short. absurd (omega arith);
  some = λ _. (n, split, ap (λ (l : List Note). set l (length notes - 1) (ended n)) split ∙ set_at (take (length notes - 1) notes) n [] (ended n) (length notes - 1) (length-take-le (length notes - 1) notes (omega arith)));
}
  where
    same : length notes - 1 + 1 ≡ length notes
    same = omega arith

    split : notes ≡ take (length notes - 1) notes ++ n ∷ []
    split = sym (take_all (length notes - 1 + 1) notes (omega arith)) ∙ take_more notes (length notes - 1) n (omega arith) ∙ ap (λ (m : Note). take (length notes - 1) notes ++ m ∷ []) (sym is)

-- one write less to take back
pub undo_step : (notes : List Note) (bytes after : List ℕ) (i : ℕ) (n : Note) → i ≤ length notes → 0 < i → n ≡ get_or notes (i - 1) n → after ≡ put n.place n.old bytes → undone (take (i - 1) notes) after ≡ undone (take i notes) bytes
undo_step notes bytes after i n within some is puts =
    let at : i - 1 + 1 ≡ i = omega arith in
    let split : take i notes ≡ take (i - 1) notes ++ n ∷ [] = ap (λ (k : ℕ). take k notes) (sym at) ∙ take_more notes (i - 1) n (omega arith) ∙ ap (λ (m : Note). take (i - 1) notes ++ m ∷ []) (sym is) in
    ap (λ (l : List ℕ). undone (take (i - 1) notes) l) puts
    ∙ sym (undone-push (take (i - 1) notes) n bytes) ∙ ap (λ (l : List Note). undone l bytes) (sym split)

-- the notes while they are marked, from the first on and up to i
abbrev pub marked : List Piece → ℕ → ℕ → List Note → List Note
marked pieces first i notes = take first notes ++ (with_pieces pieces 0 (take (i - first) (drop first notes)) ++ drop i notes)

pub mark_step : (pieces : List Piece) (first i : ℕ) (notes now : List Note) (n : Note) → first ≤ i → i < length notes → now ≡ marked pieces first i notes → n ≡ get_or now i n
    → set now i (with_piece (piece_at pieces (i - first)) n) ≡ marked pieces first (i + 1) notes
mark_step pieces first i notes now n from below so_far is =
    ap (λ (l : List Note). set l i (with_piece piece n)) whole
    ∙ set_at front x (drop (i + 1) notes) (with_piece piece n) i long
    ∙ ap (λ (m : Note). front ++ with_piece piece m ∷ drop (i + 1) notes) n_is
    ∙ append_assoc (take first notes) (with_pieces pieces 0 behind) (with_piece piece x ∷ drop (i + 1) notes)
    ∙ ap (λ (l : List Note). take first notes ++ l) (sym (append_assoc (with_pieces pieces 0 behind) (with_piece piece x ∷ []) (drop (i + 1) notes)) ∙ ap (λ (l : List Note). l ++ drop (i + 1) notes) more)
  where
    piece : Piece
    piece = piece_at pieces (i - first)

    behind : List Note
    behind = take (i - first) (drop first notes)

    front : List Note
    front = take first notes ++ with_pieces pieces 0 behind

    x : Note
    x = get_or notes i n

    length_behind : length behind ≡ i - first
    length_behind = length-take-le (i - first) (drop first notes) (omega (arith, length-drop first notes))

    long : length front ≡ i
    long = omega (arith, length-append (take first notes) (with_pieces pieces 0 behind), length-with_pieces pieces 0 behind, length_behind, length-take-le first notes (omega arith))

    whole : now ≡ front ++ x ∷ drop (i + 1) notes
    whole = so_far ∙ sym (append_assoc (take first notes) (with_pieces pieces 0 behind) (drop i notes)) ∙ ap (λ (l : List Note). front ++ l) (drop_more notes i n below)

    n_is : n ≡ x
    n_is = is ∙ ap (λ (l : List Note). get_or l i n) whole ∙ get_or_at front x (drop (i + 1) notes) n i long

    at : first + (i - first) ≡ i
    at = omega arith

    one_on : i - first + 1 ≡ i + 1 - first
    one_on = omega arith

    there : get_or (drop first notes) (i - first) n ≡ x
    there = get_or-drop first notes (i - first) n ∙ ap (λ (k : ℕ). get_or notes k n) at

    taken : take (i + 1 - first) (drop first notes) ≡ behind ++ x ∷ []
    taken = ap (λ (k : ℕ). take k (drop first notes)) (sym one_on) ∙ take_more (drop first notes) (i - first) n (omega (arith, length-drop first notes)) ∙ ap (λ (m : Note). behind ++ m ∷ []) there

    counted : i - first ≡ 0 + length behind
    counted = omega (arith, length_behind)

    more : with_pieces pieces 0 behind ++ with_piece piece x ∷ [] ≡ with_pieces pieces 0 (take (i + 1 - first) (drop first notes))
    more = ap (λ (k : ℕ). with_pieces pieces 0 behind ++ with_piece (piece_at pieces k) x ∷ []) counted ∙ sym (with_pieces-push pieces 0 behind x) ∙ ap (λ (l : List Note). with_pieces pieces 0 l) (sym taken)
