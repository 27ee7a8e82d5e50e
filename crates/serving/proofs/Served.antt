-- Frames that are answered one after another, as a loop does, are all answered; the bytes of all were moved, and stood
-- at the beginning of the input. What was written is a front of the answers.
use Rattle.std.proofs.Common.{◌≡◌, ◌≢◌, ◌<◌, ◌+◌, ◌⊎◌, ◌∷◌, ◌++◌, [], ℕ, List, append_assoc, append-nil, ap, arith, inl, inr, length, length-append, refl, subst, sym, ◌∙◌}
use Rattle.std.specs.Prelude.{Err, IfSome, None, Option, Some, drop, take}
use Rattle.std.specs.Int.{from_le_bytes, w32}
use Rattle.std.proofs.Math.Seq.{drop-append_seam}
use Rattle.std.proofs.lemmas.List.{drop-drop}
use Rattle.std.specs.Io.{StartsWith}
use Rattle.std.specs.Io.KnownBytes.{Appends, Consumes, IsAtEnd}
use Rattle.std.proofs.KnownBytes.{Appends-nil, Appends-trans, Consumes-nil, Consumes-trans, starts_with_rest}
use Rattle.std.proofs.Math.Seq.{take-append_seam}
use Rattle.std.proofs.lemmas.Grind.{flat_map-append}
use Rattle.std.proofs.lemmas.List.Elements.{All-append, All-cons, All-nil}
use Rattle.base.specs.declared.names.Owner.{Owner}
use Rattle.device_model.specs.declared.device.SectorDevice.{Ghosts}
use Rattle.pool_threads.specs.declared.handle.Handle.{Handle}
use Rattle.serving.specs.Frames.{AnswersFrame}
use Rattle.serving.specs.Inputs.{AnswersFrames, BeginsWithFrames, EndsInBadLength, EndsWell, Exchange, Exchanges, IsBadLength, IsCutOff, IsCutOffAfter, IsWhole, ReadsFrame, Streams, answers_of, frames_of}
use Rattle.serving.specs.Written.{AppendsFront, MayBeAnswered}
use Rattle.serving.proofs.ClientFrames.{durable_answers}
use Rattle.serving.specs.declared.inputs.Ending.{Ending}
use Rattle.serving.specs.declared.inputs.Ending.TheVariants as ending

-- bytes that were consumed stood at the beginning
begins_of_consumed : (a b : Option (List ℕ)) (bs : List ℕ) → Consumes a b bs → IfSome a (λ bytes. StartsWith bytes bs)
begins_of_consumed None b bs p = tt
begins_of_consumed (Some xs) None bs p = absurd p
begins_of_consumed (Some xs) (Some ys) bs p = ap (take (length bs)) p ∙ take-append_seam bs ys

-- what follows them stood after them
begins_on : (a b : Option (List ℕ)) (bs cs : List ℕ) → Consumes a b bs → IfSome b (λ bytes. StartsWith bytes cs) → IfSome a (λ bytes. StartsWith bytes (bs ++ cs))
begins_on None b bs cs p q = tt
begins_on (Some xs) None bs cs p q = absurd p
begins_on (Some xs) (Some ys) bs cs p q =
    let rest : List ℕ = drop (length cs) ys in
    let whole : xs ≡ (bs ++ cs) ++ rest = p ∙ ap (λ (l : List ℕ). bs ++ l) (starts_with_rest ys cs q) ∙ sym (append_assoc bs cs rest) in
    ap (take (length (bs ++ cs))) whole ∙ take-append_seam (bs ++ cs) rest

-- the answers to more frames follow
writes_then : (xs ys : List Exchange) (a b c : Option (List ℕ)) → Appends a b (answers_of xs) → Appends b c (answers_of ys) → Appends a c (answers_of (xs ++ ys))
writes_then xs ys a b c p q = subst (Appends a c) (sym (flat_map-append (λ (x : Exchange). x.answer) xs ys)) (Appends-trans a b c (answers_of xs) (answers_of ys) p q)

-- a front of them follows
front_follows : (bs cs front : List ℕ) → StartsWith cs front → StartsWith (bs ++ cs) (bs ++ front)
front_follows bs cs front q =
    let rest : List ℕ = drop (length front) cs in
    let whole : bs ++ cs ≡ (bs ++ front) ++ rest = ap (λ (l : List ℕ). bs ++ l) (starts_with_rest cs front q) ∙ sym (append_assoc bs front rest) in
    ap (take (length (bs ++ front))) whole ∙ take-append_seam (bs ++ front) rest

front_then : (xs ys : List Exchange) (a b c : Option (List ℕ)) → Appends a b (answers_of xs) → AppendsFront b c (answers_of ys) → AppendsFront a c (answers_of (xs ++ ys))
front_then xs ys a b c p (front, q, starts) = (
  answers_of xs ++ front,
  Appends-trans a b c (answers_of xs) front p q,
  subst (λ (l : List ℕ). StartsWith l (answers_of xs ++ front)) (sym (flat_map-append (λ (x : Exchange). x.answer) xs ys)) (front_follows (answers_of xs) (answers_of ys) front starts),
)

-- nothing, or all, is a front
pub no_front : (a : Option (List ℕ)) (bs : List ℕ) → AppendsFront a a bs
no_front a bs = ([], Appends-nil a, refl)

-- the last is a bad length, also after others
bad_then : (xs ys : List Exchange) → EndsInBadLength ys → EndsInBadLength (xs ++ ys)
bad_then xs ys e = record { good = xs ++ e.good; last = e.last; parts = ap (λ (l : List Exchange). xs ++ l) e.parts ∙ sym (append_assoc xs e.good (e.last ∷ [])); bad = e.bad }

-- what is left after more frames of the input
left_after : (all bs cs rest : List ℕ) → all ≡ bs ++ rest → drop (length (bs ++ cs)) all ≡ drop (length cs) rest
left_after all bs cs rest is =
    ap (λ (n : ℕ). drop n all) (length-append bs cs) ∙ sym (drop-drop (length cs) (length bs) all) ∙ ap (drop (length cs)) (ap (drop (length bs)) is ∙ drop-append_seam bs rest)

cut_on : (a b : Option (List ℕ)) (bs cs : List ℕ) → Consumes a b bs → IfSome b (λ bytes. IsCutOff (drop (length cs) bytes)) → IfSome a (λ bytes. IsCutOff (drop (length (bs ++ cs)) bytes))
cut_on None b bs cs p q = tt
cut_on (Some xs) None bs cs p q = absurd p
cut_on (Some xs) (Some ys) bs cs p q = subst IsCutOff (sym (left_after xs bs cs ys p)) q

cut_then : (xs ys : List Exchange) (a b : Option (List ℕ)) → Consumes a b (frames_of xs) → IsCutOffAfter ys b → IsCutOffAfter (xs ++ ys) a
cut_then xs ys a b p (inl bad) = inl (bad_then xs ys bad)
cut_then xs ys a b p (inr cut) = inr (subst (λ (l : List ℕ). IfSome a (λ bytes. IsCutOff (drop (length l) bytes))) (sym (flat_map-append (λ (x : Exchange). x.frame) xs ys)) (cut_on a b (frames_of xs) (frames_of ys) p cut))

pub exchanges_then : (xs ys : List Exchange) (a b c : Streams) → Exchanges xs a b → Exchanges ys b c → Exchanges (xs ++ ys) a c
exchanges_then xs ys a b c p q = record {
  whole = All-append (λ (x : Exchange). IsWhole x.frame) xs ys p.whole q.whole;
  reads = subst (Consumes a.input c.input) (sym (flat_map-append (λ (x : Exchange). x.frame) xs ys)) (Consumes-trans a.input b.input c.input (frames_of xs) (frames_of ys) p.reads q.reads);
  writes = writes_then xs ys a.output b.output c.output p.writes q.writes;
}

-- whole frames, and then what the rest of the input begins with
pub begins_then : (xs ys : List Exchange) (a b : Streams) → Exchanges xs a b → BeginsWithFrames ys b.input → BeginsWithFrames (xs ++ ys) a.input
begins_then xs ys a b p q = record {
  good = xs ++ q.good;
  last = q.last;
  parts = ap (λ (l : List Exchange). xs ++ l) q.parts ∙ sym (append_assoc xs q.good q.last);
  whole = All-append (λ (x : Exchange). IsWhole x.frame) xs q.good p.whole q.whole;
  alone = q.alone;
  begins = subst (λ (l : List ℕ). IfSome a.input (λ bytes. StartsWith bytes l)) (sym (flat_map-append (λ (x : Exchange). x.frame) xs ys)) (begins_on a.input b.input (frames_of xs) (frames_of ys) p.reads q.begins);
}

pub ends_then : (e : Ending) (xs ys : List Exchange) (a b c : Streams) → Exchanges xs a b → EndsWell e ys b c → EndsWell e (xs ++ ys) a c
ends_then ending.Done xs ys a b c p q = (exchanges_then xs ys a b c p q.0, q.1)
ends_then ending.CutOff xs ys a b c p q = (writes_then xs ys a.output b.output c.output p.writes q.0, cut_then xs ys a.input b.input p.reads q.1)
ends_then ending.ReadFailed xs ys a b c p q = writes_then xs ys a.output b.output c.output p.writes q
ends_then ending.WriteFailed xs ys a b c p q = front_then xs ys a.output b.output c.output p.writes q
ends_then ending.NoMemory xs ys a b c p q = front_then xs ys a.output b.output c.output p.writes q

-- no frames
exchanges_nothing : (i j o : Option (List ℕ)) → Consumes i j [] → Exchanges [] (record { input = i; output = o }) (record { input = j; output = o })
exchanges_nothing i j o reads = record { whole = All-nil (λ (x : Exchange). IsWhole x.frame); reads = reads; writes = Appends-nil o }

pub exchanges_none : (a : Streams) → Exchanges [] a a
exchanges_none a = exchanges_nothing a.input a.input a.output (Consumes-nil a.input)

pub begins_none : (input : Option (List ℕ)) → BeginsWithFrames [] input
begins_none input = record {
  good = [];
  last = [];
  parts = refl;
  whole = All-nil (λ (x : Exchange). IsWhole x.frame);
  alone = tt;
  begins = begins_of_consumed input input [] (Consumes-nil input);
}

-- the input ended before a frame, or within it: none is answered
pub ends_none : (e : Ending) (frame : List ℕ) (i j o : Option (List ℕ)) → ReadsFrame (Err e) frame i j → EndsWell e [] (record { input = i; output = o }) (record { input = j; output = o })
ends_none ending.Done frame i j o reads = (exchanges_nothing i j o reads.0, reads.1)
ends_none ending.CutOff frame i j o reads = (Appends-nil o, inr reads)
ends_none ending.ReadFailed frame i j o reads = Appends-nil o
ends_none ending.WriteFailed frame i j o reads = no_front o []
ends_none ending.NoMemory frame i j o reads = no_front o []

-- one frame and its answer
exchanges_one : (x : Exchange) (a b : Streams) → IsWhole x.frame → Consumes a.input b.input x.frame → Appends a.output b.output x.answer → Exchanges (x ∷ []) a b
exchanges_one x a b whole reads writes = record {
  whole = All-cons (λ (y : Exchange). IsWhole y.frame) x [] whole (All-nil (λ (y : Exchange). IsWhole y.frame));
  reads = subst (Consumes a.input b.input) (sym (append-nil x.frame)) reads;
  writes = subst (Appends a.output b.output) (sym (append-nil x.answer)) writes;
}

-- one frame, or a length alone
begins_one : (x : Exchange) (a b : Option (List ℕ)) → IsBadLength x.frame ⊎ IsWhole x.frame → Consumes a b x.frame → BeginsWithFrames (x ∷ []) a
begins_one x a b (inl bad) reads = record {
  good = [];
  last = x ∷ [];
  parts = refl;
  whole = All-nil (λ (y : Exchange). IsWhole y.frame);
  alone = bad;
  begins = begins_of_consumed a b (x.frame ++ []) (subst (Consumes a b) (sym (append-nil x.frame)) reads);
}
begins_one x a b (inr whole) reads = record {
  good = x ∷ [];
  last = [];
  parts = refl;
  whole = All-cons (λ (y : Exchange). IsWhole y.frame) x [] whole (All-nil (λ (y : Exchange). IsWhole y.frame));
  alone = tt;
  begins = begins_of_consumed a b (x.frame ++ []) (subst (Consumes a b) (sym (append-nil x.frame)) reads);
}

-- bytes that were read are a whole frame, unless they are a bad length: four bytes
whole_of : (frame : List ℕ) → length frame ≢ 4 → IsBadLength frame ⊎ IsWhole frame → IsWhole frame
whole_of frame is_longer (inl bad) = absurd (is_longer bad.four)
whole_of frame is_longer (inr whole) = whole

bad_of : (frame : List ℕ) → length frame ≡ 4 → IsBadLength frame ⊎ IsWhole frame → IsBadLength frame
bad_of frame four (inl bad) = bad
bad_of frame four (inr whole) = absurd (let least = whole.least in omega (arith, least, four))

-- an input that ends within the bytes that its first four say
pub cut_off_of : (a b : Option (List ℕ)) (four : List ℕ) → length four ≡ 4 → Consumes a b four → IfSome b (λ rest. length rest + 4 < from_le_bytes w32 four) → IfSome a IsCutOff
cut_off_of None b four is p q = tt
cut_off_of (Some xs) None four is p q = absurd p
cut_off_of (Some xs) (Some ys) four is p q =
    let count : length xs ≡ 4 + length ys = ap length p ∙ length-append four ys ∙ ap (λ (n : ℕ). n + length ys) is in
    let front : take 4 xs ≡ four = subst (λ (n : ℕ). take n xs ≡ four) is (ap (take (length four)) p ∙ take-append_seam four ys) in
    record { some = omega (arith, count); ends = inr (subst (λ (l : List ℕ). length xs < from_le_bytes w32 l) (sym front) (omega (arith, count, q))) }

-- an input that ends before it has four bytes
pub too_short : (a b : Option (List ℕ)) (bs : List ℕ) → Consumes a b bs → IsAtEnd b → 0 < length bs → length bs < 4 → IfSome a IsCutOff
too_short None b bs p end some few = tt
too_short (Some xs) None bs p end some few = absurd p
too_short (Some xs) (Some ys) bs p end some few =
    let is : xs ≡ bs = p ∙ ap (λ (l : List ℕ). bs ++ l) end ∙ append-nil bs in
    record { some = subst (λ (l : List ℕ). 0 < length l) (sym is) some; ends = inl (subst (λ (l : List ℕ). length l < 4) (sym is) few) }

module _ {Dev : Type 0} {G : Ghosts Dev} (owner : Owner) where
  pub answers_then : (xs ys : List Exchange) (a b c : Handle Dev G) → AnswersFrames owner xs a b → AnswersFrames owner ys b c → AnswersFrames owner (xs ++ ys) a c
  answers_then [] ys a b c same rest = subst (λ (h : Handle Dev G). AnswersFrames owner ys h c) same rest
  answers_then (x ∷ xs) ys a b c (next, one, more) rest = (next, one, answers_then xs ys next b c more rest)

  -- a frame that was read, and what was made of it
  module _ (frame shown : List ℕ) (a b : Streams) (old new : Handle Dev G) (same : shown ≡ frame) (whole : IsBadLength frame ⊎ IsWhole frame) (reads : Consumes a.input b.input frame) where
    abbrev exchange : List ℕ → Exchange
    exchange answer = record { frame = shown; answer = answer }

    exchange_begins : (answer : List ℕ) → BeginsWithFrames (exchange answer ∷ []) a.input
    exchange_begins answer = begins_one (exchange answer) a.input b.input (subst (λ (l : List ℕ). IsBadLength l ⊎ IsWhole l) (sym same) whole) (subst (Consumes a.input b.input) (sym same) reads)

    -- it was answered, and a front of the answer was written
    pub answered : (answer : List ℕ) → AnswersFrame owner shown answer old new → AppendsFront a.output b.output answer → (xs : List Exchange) × AnswersFrames owner xs old new × BeginsWithFrames xs a.input × AppendsFront a.output b.output (answers_of xs)
    answered answer made front = (exchange answer ∷ [], (new, made, refl), exchange_begins answer, subst (AppendsFront a.output b.output) (sym (append-nil answer)) front)

    module _ (cleared out sent : List ℕ) (made : (answer : List ℕ) × AnswersFrame owner shown answer old new × (out ≡ cleared ++ answer)) (empty : cleared ≡ []) (all_sent : sent ≡ out) where
      is_answer : sent ≡ made.0
      is_answer = all_sent ∙ made.2 ∙ ap (λ (l : List ℕ). l ++ made.0) empty

      -- what is sent may be an answer
      pub may_be_sent : MayBeAnswered new sent
      may_be_sent = subst (MayBeAnswered new) (sym is_answer) (durable_answers owner shown made.0 old new made.1)

      -- a front of it was written
      pub front_written : AppendsFront a.output b.output sent → (xs : List Exchange) × AnswersFrames owner xs old new × BeginsWithFrames xs a.input × AppendsFront a.output b.output (answers_of xs)
      front_written front = answered made.0 made.1 (subst (AppendsFront a.output b.output) is_answer front)

      written : Appends a.output b.output sent → Appends a.output b.output made.0
      written writes = subst (Appends a.output b.output) is_answer writes

      -- all of it was written, and the frame was a bad length
      pub answer_written : length frame ≡ 4 → Appends a.output b.output sent → (xs : List Exchange) × AnswersFrames owner xs old new × BeginsWithFrames xs a.input × (Appends a.output b.output (answers_of xs) × IsCutOffAfter xs a.input)
      answer_written four writes = (
        exchange made.0 ∷ [],
        (new, made.1, refl),
        exchange_begins made.0,
        (subst (Appends a.output b.output) (sym (append-nil made.0)) (written writes), inl (record { good = []; last = exchange made.0; parts = refl; bad = subst IsBadLength (sym same) (bad_of frame four whole) })),
      )

      -- and it was whole
      pub exchanged : length frame ≢ 4 → Appends a.output b.output sent → (xs : List Exchange) × AnswersFrames owner xs old new × BeginsWithFrames xs a.input × Exchanges xs a b
      exchanged is_longer writes = (
        exchange made.0 ∷ [],
        (new, made.1, refl),
        exchange_begins made.0,
        exchanges_one (exchange made.0) a b (subst IsWhole (sym same) (whole_of frame is_longer whole)) (subst (Consumes a.input b.input) (sym same) reads) (written writes),
      )
