-- Kept blocks, as contracts see them, after a write, after a flush, and after the first one was given back.
use Rattle.std.proofs.Common.{◌≡◌, ℕ, zero, suc, ◌+◌, ◌-◌, ◌<◌, ◌≤◌, ◌||◌, ◌&&◌, Bool, true, false, cond, List, [], ◌∷◌, ◌++◌, length, length-append, length-drop, take, drop, map, refl, sym, ap, subst, ◌∙◌, arith}
use Rattle.std.specs.Prelude.{not, nat_lt, Option, Some, None, option_map, unwrap_or, find, slice_get, slice_index_or}
use Rattle.std.specs.List.{list_any}
use Rattle.std.proofs.lemmas.Bool.{le-ltb}
use Rattle.std.proofs.lemmas.Bool.Decides.{nat_tests}
use Rattle.std.proofs.lemmas.List.{append-nil, take_all, drop_all, take-append-drop, map-append}
use Rattle.std.proofs.lemmas.List.Folds.{list_any-append}
use Rattle.std.proofs.Math.Bool.{or-false}
use Rattle.base.specs.declared.names.Receipt.{Receipt}
use Rattle.base.specs.formats.Chain.{Header}
use Rattle.base.specs.steps.Logs.{Committed, KeptBlock, begins_unfinished, begun_committed, blocks_before, has_record, header_at, is_needed, is_same, committed_of}
use Rattle.intent_log.specs.Kept.{IsFrontGiven, LeadUpTo, begins_begun, begun_shown, header_fields, is_block_needed, receipt_begun, shown_block, shown_blocks}
use Rattle.intent_log.specs.Receipts.{begins_of, committed, ends_of, is_in_later_group, is_same_receipt}
use Rattle.intent_log.specs.declared.begun.BegunRecord.{BegunRecord}
use Rattle.intent_log.specs.declared.kept_block.LogHeader.{LogHeader}
use Rattle.intent_log.specs.declared.kept_block.KeptBlock as code

abbrev flush : KeptBlock → KeptBlock
flush b = record b { flushed = true }

flushed_again : (flag : Bool) (bs : List code.KeptBlock) → map flush (map (shown_block flag) bs) ≡ map (shown_block true) bs
flushed_again flag [] = refl
flushed_again flag (b ∷ bs) = ap (λ (l : List KeptBlock). shown_block true b ∷ l) (flushed_again flag bs)

-- a flush makes all of them certain
all_flushed : (f : ℕ) (bs : List code.KeptBlock) → shown_blocks (length bs) bs ≡ map flush (shown_blocks f bs)
all_flushed f bs =
    let front : take (length bs) bs ≡ bs = take_all (length bs) bs (omega arith) in
    let back : drop (length bs) bs ≡ [] = drop_all (length bs) bs (omega arith) in
    let all : shown_blocks (length bs) bs ≡ map (shown_block true) bs =
    (λ i. map (shown_block true) (front i) ++ map (shown_block false) (back i)) ∙ append-nil (map (shown_block true) bs) in
    let split : map flush (shown_blocks f bs) ≡ map (shown_block true) (take f bs) ++ map (shown_block true) (drop f bs) =
    map-append flush (map (shown_block true) (take f bs)) (map (shown_block false) (drop f bs))
    ∙ (λ i. flushed_again true (take f bs) i ++ flushed_again false (drop f bs) i) in
    let whole : map (shown_block true) (take f bs) ++ map (shown_block true) (drop f bs) ≡ map (shown_block true) bs =
    sym (map-append (shown_block true) (take f bs) (drop f bs)) ∙ ap (λ (l : List code.KeptBlock). map (shown_block true) l) (take-append-drop f bs) in
    all ∙ sym (split ∙ whole)

pub flushed_blocks : (f n : ℕ) (bs : List code.KeptBlock) → n ≡ length bs → shown_blocks n bs ≡ map (λ (b : KeptBlock). record b { flushed = true }) (shown_blocks f bs)
flushed_blocks f n bs all = ap (λ (k : ℕ). shown_blocks k bs) all ∙ all_flushed f bs

positive : (n : ℕ) → nat_lt 0 (suc n) ≡ true
positive n = grind (arith, nat_tests)

none_awaits : (bs : List code.KeptBlock) → list_any (λ (b : KeptBlock). not b.flushed) (map (shown_block true) bs) ≡ false
none_awaits [] = refl
none_awaits (b ∷ bs) = none_awaits bs

all_await : (bs : List code.KeptBlock) → list_any (λ (b : KeptBlock). not b.flushed) (map (shown_block false) bs) ≡ nat_lt 0 (length bs)
all_await [] = refl
all_await (b ∷ bs) = sym (positive (length bs))

before : (f n : ℕ) → nat_lt 0 (n - f) ≡ nat_lt f n
before f n = grind (arith, nat_tests)

-- some await a flush if not all are certain
pub some_await : (f n : ℕ) (bs : List code.KeptBlock) → n ≡ length bs → nat_lt f n ≡ list_any (λ (b : KeptBlock). not b.flushed) (shown_blocks f bs)
some_await f n bs all =
    ap (nat_lt f) all
    ∙ sym (list_any-append (λ (b : KeptBlock). not b.flushed) (map (shown_block true) (take f bs)) (map (shown_block false) (drop f bs))
    ∙ (λ i. none_awaits (take f bs) i || all_await (drop f bs) i)
    ∙ ap (nat_lt 0) (length-drop f bs) ∙ before f (length bs))

-- the first one is given back
pop_block : (f : ℕ) (b : code.KeptBlock) (bs : List code.KeptBlock) → shown_blocks f (b ∷ bs) ≡ shown_block (nat_lt 0 f) b ∷ shown_blocks (f - 1) bs
pop_block zero b bs = refl
pop_block (suc f) b bs =
    let less : suc f - 1 ≡ f = omega arith in
    (λ i. shown_block (sym (positive f) i) b ∷ shown_blocks (sym less i) bs)

pub front_given : (f left : ℕ) (b first : code.KeptBlock) (items bs : List code.KeptBlock) (header : LogHeader) → items ≡ b ∷ bs
    → first ≡ slice_index_or items 0 first → left ≡ f - 1 → first.header.number < header.number
    → IsFrontGiven (header_fields header) (shown_blocks f items) (shown_blocks left bs) b.header.address
front_given f left b first items bs header is at less below = record {
  block = shown_block (nat_lt 0 f) b;
  front = ap (λ (l : List code.KeptBlock). shown_blocks f l) is ∙ pop_block f b bs ∙ ap (λ (k : ℕ). shown_block (nat_lt 0 f) b ∷ shown_blocks k bs) (sym less);
  address_is = refl;
  below = subst (λ (x : code.KeptBlock). x.header.number < header.number) (at ∙ ap (λ (l : List code.KeptBlock). slice_index_or l 0 first) is) below;
}

-- and if its number is not below a header's, none is
none_from : (header : Header) (n f : ℕ) (b : code.KeptBlock) (bs : List code.KeptBlock) → LeadUpTo n (b ∷ bs) → header.number ≤ b.header.number
    → blocks_before header (shown_blocks f (b ∷ bs)) ≡ []
none_from header n zero b [] lead le = rw (le-ltb b.header.number header.number le) refl
none_from header n (suc f) b [] lead le = rw (le-ltb b.header.number header.number le) (none_of_none f)
  where
    none_of_none : (f : ℕ) → blocks_before header (shown_blocks f []) ≡ []
    none_of_none zero = refl
    none_of_none (suc f) = refl
none_from header n zero b (c ∷ cs) (here, (next, rest)) le =
    rw (le-ltb b.header.number header.number le) (none_from header n zero c cs (next, rest) (omega (arith, here, next, le)))
none_from header n (suc f) b (c ∷ cs) (here, (next, rest)) le =
    rw (le-ltb b.header.number header.number le) (none_from header n f c cs (next, rest) (omega (arith, here, next, le)))

pub none_before : (header : Header) (n f : ℕ) (first : code.KeptBlock) (bs : List code.KeptBlock) → LeadUpTo n bs → 0 < length bs → first ≡ slice_index_or bs 0 first
    → header.number ≤ first.header.number → blocks_before header (shown_blocks f bs) ≡ []
none_before header n f first [] lead some at le = absurd (omega (arith, some))
none_before header n f first (b ∷ bs) lead some at le = none_from header n f b bs lead (subst (λ (x : code.KeptBlock). header.number ≤ x.header.number) at le)

-- a block reaches above a group if its highest group does
any_above : (group : ℕ) (rs : List Receipt) → list_any (λ (r : Committed). nat_lt group r.group) (map committed rs) ≡ list_any (is_in_later_group group) rs
any_above group [] = refl
any_above group (r ∷ rs) = ap (λ (x : Bool). nat_lt group r.group.0 || x) (any_above group rs)

any_same : (r : Receipt) (rs : List Receipt) → list_any (is_same (committed r)) (map committed rs) ≡ list_any (is_same_receipt r) rs
any_same r [] = refl
any_same r (s ∷ rs) = ap (λ (x : Bool). is_same_receipt r s || x) (any_same r rs)

-- the record that is begun is the one that its receipt names
pub begun_named : (g : BegunRecord) → committed_of (begun_shown g).logged ≡ committed g.receipt
begun_named g = λ i. record { ordinal = sym g.ordinal_is i; group = sym g.group_is i }

-- and it begins in a block if the block's receipts say so
begins_is : (begun : Option BegunRecord) (flag : Bool) (b : code.KeptBlock) → begins_unfinished (begun_committed (option_map begun_shown begun)) (shown_block flag b) ≡ begins_begun (receipt_begun begun) b
begins_is None flag b = refl
begins_is (Some g) flag b = ap (λ (c : Committed). list_any (is_same c) (map committed (begins_of b.holds))) (begun_named g) ∙ any_same g.receipt (begins_of b.holds)

needed_is : (group : ℕ) (begun : Option BegunRecord) (flag : Bool) (b : code.KeptBlock)
    → is_needed group (begun_committed (option_map begun_shown begun)) (shown_block flag b) ≡ is_block_needed group (receipt_begun begun) b
needed_is group begun flag b = λ i. (any_above group (begins_of b.holds) ∙ b.highest_is group) i || begins_is begun flag b i

both : (x y : Bool) (a : KeptBlock) (b : code.KeptBlock) (o : Option KeptBlock) (p : Option code.KeptBlock) → x ≡ y → header_at a ≡ header_fields b.header
    → option_map header_at o ≡ option_map (λ (k : code.KeptBlock). header_fields k.header) p
    → option_map header_at (cond x (Some a) o) ≡ option_map (λ (k : code.KeptBlock). header_fields k.header) (cond y (Some b) p)
both true true a b o p same here rest = ap (λ (h : Header). Some h) here
both true false a b o p same here rest = absurd cc
both false true a b o p same here rest = absurd cc
both false false a b o p same here rest = rest

-- so the first block that a sync has to keep is found by these
module _ (group : ℕ) (begun : Option BegunRecord) where
  abbrev needs : KeptBlock → Bool
  needs b = is_needed group (begun_committed (option_map begun_shown begun)) b

  abbrev pub needs_block : code.KeptBlock → Bool
  needs_block b = is_block_needed group (receipt_begun begun) b

  found_in : (f : ℕ) (bs : List code.KeptBlock)
      → option_map header_at (find needs (shown_blocks f bs)) ≡ option_map (λ (b : code.KeptBlock). header_fields b.header) (find needs_block bs)
  found_in zero [] = refl
  found_in (suc f) [] = refl
  found_in zero (b ∷ bs) =
      both (needs (shown_block false b)) (needs_block b) (shown_block false b) b (find needs (shown_blocks zero bs)) (find needs_block bs)
      (needed_is group begun false b) refl (found_in zero bs)
  found_in (suc f) (b ∷ bs) =
      both (needs (shown_block true b)) (needs_block b) (shown_block true b) b (find needs (shown_blocks f bs)) (find needs_block bs)
      (needed_is group begun true b) refl (found_in f bs)

  pub header_found : (f : ℕ) (bs : List code.KeptBlock) (next : Header) (found : Option code.KeptBlock) → found ≡ find needs_block bs
      → unwrap_or (option_map (λ (b : code.KeptBlock). header_fields b.header) found) next ≡ unwrap_or (option_map header_at (find needs (shown_blocks f bs))) next
  header_found f bs next found is =
      ap (λ (o : Option Header). unwrap_or o next) (ap (λ (o : Option code.KeptBlock). option_map (λ (b : code.KeptBlock). header_fields b.header) o) is ∙ sym (found_in f bs))

-- a block that is found has no number past the next one
pub found_low : (test : code.KeptBlock → Bool) (n : ℕ) (bs : List code.KeptBlock) (b : code.KeptBlock) → LeadUpTo n bs → Some b ≡ find test bs → b.header.number ≤ n
found_low test n [] b lead is = absurd cc
found_low test n (c ∷ cs) b (here, rest) is = by_test (λ later. found_low test n cs b rest later) (test c) refl
  where
    by_test : (Some b ≡ find test cs → b.header.number ≤ n) → (x : Bool) → test c ≡ x → b.header.number ≤ n
    by_test behind true passes =
        let same : Some b ≡ Some c = is ∙ ap (λ (y : Bool). cond y (Some c) (find test cs)) passes in
        let one : b.header.number ≡ c.header.number = ap (λ (o : Option code.KeptBlock). (unwrap_or o b).header.number) same in
        omega (arith, one, here)
    by_test behind false fails = behind (is ∙ ap (λ (y : Bool). cond y (Some c) (find test cs)) fails)

-- a record ends in a flushed block if one of the front has its receipt
abbrev pub has_receipt : Receipt → code.KeptBlock → Bool
has_receipt r b = list_any (is_same_receipt r) (ends_of b.holds)

abbrev pub is_in_flushed : Receipt → KeptBlock → Bool
is_in_flushed r b = b.flushed && has_record b (committed r)

any_flushed : (r : Receipt) (bs : List code.KeptBlock) → list_any (is_in_flushed r) (map (shown_block true) bs) ≡ list_any (has_receipt r) bs
any_flushed r [] = refl
any_flushed r (b ∷ bs) = λ i. any_same r (ends_of b.holds) i || any_flushed r bs i

none_flushed : (r : Receipt) (bs : List code.KeptBlock) → list_any (is_in_flushed r) (map (shown_block false) bs) ≡ false
none_flushed r [] = refl
none_flushed r (b ∷ bs) = none_flushed r bs

pub flushed_has : (r : Receipt) (f : ℕ) (bs : List code.KeptBlock) → list_any (has_receipt r) (take f bs) ≡ list_any (is_in_flushed r) (shown_blocks f bs)
flushed_has r f bs =
    sym (list_any-append (is_in_flushed r) (map (shown_block true) (take f bs)) (map (shown_block false) (drop f bs))
    ∙ (λ i. any_flushed r (take f bs) i || none_flushed r (drop f bs) i) ∙ or-false (list_any (has_receipt r) (take f bs)))

-- contracts see as many blocks as there are, with numbers up to the next one
length-shown : (f : ℕ) (bs : List code.KeptBlock) → length (shown_blocks f bs) ≡ length bs
length-shown zero [] = refl
length-shown (suc f) [] = refl
length-shown zero (b ∷ bs) = ap suc (length-shown zero bs)
length-shown (suc f) (b ∷ bs) = ap suc (length-shown f bs)

same_block : (a b : KeptBlock) (x : ℕ) → Some a ≡ Some b → a.number + x ≡ b.number + x
same_block a b x is = ap (λ (o : Option KeptBlock). (unwrap_or o a).number + x) is

pub numbered_at : (n f : ℕ) (bs : List code.KeptBlock) → LeadUpTo n bs → (i : ℕ) (b : KeptBlock) → slice_get (shown_blocks f bs) i ≡ Some b
    → b.number + (length (shown_blocks f bs) - i) ≡ n
numbered_at n zero [] lead i b is = absurd cc
numbered_at n (suc f) [] lead i b is = absurd cc
numbered_at n zero (c ∷ cs) (here, rest) zero b is =
    omega (arith, here, length-shown zero cs, same_block (shown_block false c) b (length cs + 1) is)
numbered_at n (suc f) (c ∷ cs) (here, rest) zero b is =
    omega (arith, here, length-shown f cs, same_block (shown_block true c) b (length cs + 1) is)
numbered_at n zero (c ∷ cs) (here, rest) (suc i) b is = omega (arith, numbered_at n zero cs rest i b is)
numbered_at n (suc f) (c ∷ cs) (here, rest) (suc i) b is = omega (arith, numbered_at n f cs rest i b is)

-- the block that is written has the next number
pub lead_on : (n : ℕ) (bs : List code.KeptBlock) (b : code.KeptBlock) → LeadUpTo n bs → b.header.number ≡ n → LeadUpTo (n + 1) (bs ++ b ∷ [])
lead_on n [] b lead is = (omega (arith, is), tt)
lead_on n (c ∷ cs) b (here, rest) is = (omega (arith, here, length-append cs (b ∷ [])), lead_on n cs b rest is)
