-- A block that opens as a header names it, with the payload of a log block, is the log block there.
use Rattle.std.proofs.Common.{◌≡◌, ℕ, List, sym, subst, ◌∙◌}
use Rattle.std.specs.Prelude.{Result, Ok, Err, Option, Some, None, IfOk, IfSome}
use Rattle.base.specs.formats.Blocks.{Frame, IsBlock}
use Rattle.base.specs.formats.Chain.{LogBlock, IsLogPayload}
use Rattle.base.specs.formats.Fields.{part}
use Rattle.base.specs.formats.Geometry.{IsBlockAddress}
use Rattle.checked_blocks.specs.declared.expected.Expected.{Expected}
use Rattle.checked_blocks.specs.Opening.{IsExpected}
use Rattle.intent_log.specs.Chains.{HasNoBlock, IsBlockAt, IsLogExpected}
use Rattle.intent_log.specs.declared.chains.ChainHeader.{ChainHeader}

pub is_block_of : (image : List ℕ) (frame : Frame) (h : ChainHeader) (e : Expected) (bytes payload : List ℕ) (group : ℕ) (block : LogBlock) → IsLogExpected frame h e
    → IsBlockAddress frame.blocks h.address → bytes ≡ part image h.address 4096 → IsBlock bytes e.kind e.guid group e.number payload
    → IsLogPayload payload h.import_number block → block.address ≡ h.address → IsBlockAt image frame h block
is_block_of image frame h e bytes payload group block named place at is fields address = record {
  address_is = address;
  in_area = place;
  group = group;
  payload = payload;
  sealed = subst (λ (l : List ℕ). IsBlock l 6 frame.guid group h.number payload) at (record {
    size = is.size;
    agrees = is.agrees;
    kind_is = is.kind_is ∙ named.kind_is;
    guid_is = is.guid_is ∙ named.guid_is;
    group_is = is.group_is;
    number_is = is.number_is ∙ named.number_is;
    payload_is = is.payload_is;
  });
  fields = fields;
}

-- and if it does not open there is none
pub none_opens : (image : List ℕ) (frame : Frame) (h : ChainHeader) (e : Expected) (bytes : List ℕ) → IsLogExpected frame h e
    → bytes ≡ part image h.address 4096 → (IsExpected bytes e → ⊥) → HasNoBlock image frame h
none_opens image frame h e bytes named at other block is =
    let block : IsBlock bytes 6 frame.guid is.group h.number is.payload = subst (λ (l : List ℕ). IsBlock l 6 frame.guid is.group h.number is.payload) (sym at) is.sealed in
    other (record {
      agrees = block.agrees;
      kind = block.kind_is ∙ sym named.kind_is;
      guid = block.guid_is ∙ sym named.guid_is;
      number = block.number_is ∙ sym named.number_is;
      group = rw named.group_is tt;
      check = rw named.check_is tt;
    })

-- what follows of a value that was found
pub found_also : {A E : Type 0} (P Q R : A → Type 0) (found : Result (Option A) E) → IfOk found (λ o. IfSome o P) → IfOk found (λ o. IfSome o Q) → ((a : A) → P a → Q a → R a)
    → IfOk found (λ o. IfSome o R)
found_also P Q R (Ok (Some a)) p q f = f a p q
found_also P Q R (Ok None) p q f = tt
found_also P Q R (Err e) p q f = tt
