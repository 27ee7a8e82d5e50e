-- The rule of the lock's word and slot, and what each step on the word tells. The lock is held while the word is odd.
use Rattle.std.specs.Prelude.{◌≡◌, ◌≢◌, ℕ, ◌+◌, ◌%◌, ◌≤◌, List, [], ◌∷◌, ◌++◌, length, slice_index, Some}
use mathlib.Core.Option.{some}
use lib.ListN.{get_elem?}
use base.Stored.{Gv}
use Rattle.std.specs.Prelude as std
use Rattle.atomic_table.specs.Table.{State, Me, Step}
use Rattle.word_lock.specs.declared.rule.Sight.{Sight}
use Rattle.word_lock.specs.declared.rule.Standing.{Standing}
use Rattle.word_lock.specs.declared.rule.Standing.TheVariants.{Away, Met, Holding, Spent}
use Rattle.word_lock.specs.declared.rule.Turn.{Turn}
use Rattle.word_lock.specs.Turns.{turn, turns_of, IsTurnLine}

module _ {V : Type 0} where
  abbrev pub away : V → List (Turn V) → List (Turn V) → ℕ → Sight V
  away v ts us k = record { standing = Away; seen = v; turns = ts; taken = us; kin = k }

  abbrev pub holding : V → List (Turn V) → List (Turn V) → ℕ → Sight V
  holding v ts us k = record { standing = Holding; seen = v; turns = ts; taken = us; kin = k }

  abbrev pub met : V → V → List (Turn V) → List (Turn V) → ℕ → Sight V
  met v u ts us k = record { standing = Met u; seen = v; turns = ts; taken = us; kin = k }

  abbrev pub spent : V → Sight V
  spent v = record { standing = Spent; seen = v; turns = []; taken = []; kin = 1 }

  -- what is left of a seat once another is split off it
  abbrev pub with_split : Sight V → Sight V
  with_split d = record { standing = d.standing; seen = d.seen; turns = d.turns; taken = d.taken; kin = d.kin + 1 }

  -- what a holder knows once it has gone on to a view, which is one more turn of its own
  abbrev pub with_turn : Sight V → V → Sight V
  with_turn d next = holding next (d.turns ++ turn d.seen next ∷ []) d.taken d.kin

  module _ (grows : V → V → Type 0) (truth : V) (word holder seat : ℕ) (seen : V) where
    -- what a seat knows of the truth, by its standing
    abbrev pub Knows : Standing V → Type 0
    Knows Away = grows seen truth
    Knows (Met other) = grows seen truth × grows other truth
    Knows Holding = (seat ≡ holder) × (word % 2 ≡ 1) × (seen ≡ truth)
    Knows Spent = Unit {0}

abbrev pub Mine : Type 0 → Type 0 → Type 0
Mine T V = Me (std.Option T) (Sight V)

module _ {T V : Type 0} where
  -- the seat is as it was
  abbrev pub stays : Step (std.Option T) → Mine T V → ℕ → Mine T V → Type 0
  stays st m r m' = m' ≡ m

  -- the holder goes on to the view with the code `next`, which is one more turn of its own
  abbrev pub noted : (V → Gv) → Gv → Step (std.Option T) → Mine T V → ℕ → Mine T V → Type 0
  noted code next st m r m' = (code m'.0.seen ≡ next) × (m' ≡ (holding m'.0.seen (m.0.turns ++ turn m.0.seen m'.0.seen ∷ []) m.0.taken m.0.kin, m.1))

  -- the holder has given the value back
  abbrev pub freed : Step (std.Option T) → Mine T V → ℕ → Mine T V → Type 0
  freed st m r m' = m' ≡ (away m.0.seen m.0.turns m.0.taken m.0.kin, [])

  module _ (grows : V → V → Type 0) where
    -- the seat has seen what it had seen and what the one that it met had
    abbrev pub settled : Step (std.Option T) → Mine T V → ℕ → Mine T V → Type 0
    settled st m r m' = (m' ≡ (away m'.0.seen m.0.turns m.0.taken m.0.kin, m.1)) × ((v u : V) (ts us : List (Turn V)) (k : ℕ) → m.0 ≡ met v u ts us k → grows v m'.0.seen × grows u m'.0.seen)

  module _ (grows : V → V → Type 0) where
    -- a new seat has seen at least what the lock opened with, has had no turn, and is not the only one
    abbrev pub sat : Step (std.Option T) → Mine T V → ℕ → Mine T V → Type 0
    sat st m r m' = (m' ≡ (away m'.0.seen [] [] 1, [])) × grows m.0.seen m'.0.seen

  module _ (explains : V → T → Type 0) (grows : V → V → Type 0) where
    -- where the lock was free, the seat has it with its value, and where it was held, the seat is not the only one
    abbrev pub tried : Step (std.Option T) → Mine T V → ℕ → Mine T V → Type 0
    tried st m r m' =
        (r % 2 ≡ 1 → (m' ≡ m) × (m.0.kin ≢ 0))
        × (r % 2 ≡ 0 → (x : T) × (m' ≡ (holding m'.0.seen m.0.turns m.0.taken m.0.kin, (0, Some x) ∷ [])) × grows m.0.seen m'.0.seen × explains m'.0.seen x × (m.0.kin ≡ 0 → m'.0.seen ≡ m.0.seen))

    -- of the view that the lock opened with, of its first seat's number, and of the table
    pub record Kept (first : V) (first_kin : ℕ) (s : State (std.Option T) (Sight V)) : Type 0 where
      -- the view that explains the value, and that all seats' views go on to
      pub truth : V
      -- the seat that has the lock, while it is held
      pub holder : ℕ
      -- all turns so far, each with the number of its seat
      pub turns : List (ℕ × Turn V)
      pub line : IsTurnLine grows first turns truth
      pub one_word : length s.words ≡ 1
      pub free : slice_index s.words 0 % 2 ≡ 0 → (x : T) × (s.homes ≡ some (Some x) ∷ []) × explains truth x
      pub out : slice_index s.words 0 % 2 ≡ 1 → (d : Sight V) × (get_elem? s.views holder ≡ some d) × (d.standing ≡ Holding)
      pub each_seat : (j : ℕ) (d : Sight V) → get_elem? s.views j ≡ some d → Knows grows truth (slice_index s.words 0) holder j d.seen d.standing
      -- a seat's turns are all that the line has of it, and a number that no seat has yet has none
      pub own : (j : ℕ) (d : Sight V) → get_elem? s.views j ≡ some d → d.standing ≢ Spent → d.turns ≡ turns_of j turns
      -- a seat with the number 0 is the only one that ever was, and has seen the truth; a lock with a source of seats
      -- has none
      pub alone : (i j : ℕ) (d e : Sight V) → get_elem? s.views i ≡ some d → get_elem? s.views j ≡ some e → d.kin ≡ 0 → j ≡ i
      pub sees : (j : ℕ) (d : Sight V) → get_elem? s.views j ≡ some d → d.kin ≡ 0 → d.seen ≡ truth
      pub apart : first_kin ≢ 0 → (j : ℕ) (d : Sight V) → get_elem? s.views j ≡ some d → d.kin ≢ 0
      pub unborn : (j : ℕ) → length s.views ≤ j → turns_of j turns ≡ []
