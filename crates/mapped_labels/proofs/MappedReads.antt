-- When bytes are an uberblock of a pool with a map, and of which fields.
use Rattle.std.proofs.Common.{ℕ, ◌≡◌, List, length, refl, sym, ap, ◌∙◌, subst}
use Rattle.base.specs.declared.pointer.Pointer.{Pointer}
use Rattle.uberblocks.specs.Slots.{zeros}
use Rattle.uberblocks.proofs.SlotReads as plain
use Rattle.mapped_labels.specs.declared.map_entry.MapEntry.{MapEntry}
use Rattle.mapped_labels.specs.declared.uberblock.MappedUberblock.{MappedUberblock}
use Rattle.mapped_labels.specs.MappedUberblocks.{MappedState, IsMappedUberblock, IsSealedMappedSlot}
use Rattle.mapped_labels.specs.MappedSlots.{fields_of, fields_at, HasMappedHead, HasMappedZeros, AreWithinLimits}

-- what bytes have that are an uberblock of the fields in their places
pub record IsFormed (bytes : List ℕ) : Type 0 where
  pub head : HasMappedHead bytes
  pub clear : HasMappedZeros bytes
  pub limits : AreWithinLimits (fields_at bytes).state
  pub agrees : IsSealedMappedSlot bytes

pub IsMappedUberblock-formed : (bytes : List ℕ) → length bytes ≡ 4096 → IsFormed bytes → IsMappedUberblock bytes (fields_at bytes)
unfolding fields_at zeros
IsMappedUberblock-formed bytes long f =
    record {
      size = long;
      magic = f.head.0;
      version = f.head.1;
      group = refl;
      guid = refl;
      moment = refl;
      root = refl;
      import_number = refl;
      log_address = refl;
      log_number = refl;
      map = refl;
      zeros = f.clear;
      agrees = f.agrees;
      rules = refl;
      no_lower_group = f.limits.no_lower_group;
      no_higher_group = f.limits.no_higher_group;
      no_higher_import = f.limits.no_higher_import;
      no_higher_log = f.limits.no_higher_log;
    }

-- fields are the same where each is
same_fields : {h a b c e f g i j k l m n o : ℕ} {d r : Pointer} {s t : MapEntry} → h ≡ i → a ≡ j → b ≡ k → c ≡ l → d ≡ r → e ≡ m → f ≡ n → g ≡ o → s ≡ t
    → ◌≡◌ {A = MappedState} (record { state = record { version = h; group = a; guid = b; moment = c; root = d; import_number = e; log_address = f; log_number = g }; map = s })
    (record { state = record { version = i; group = j; guid = k; moment = l; root = r; import_number = m; log_address = n; log_number = o }; map = t })
same_fields p q u v w x y z last = rw (p, q, u, v, w, x, y, z, last) refl

-- the fields of an uberblock are those in their places
pub fields_at-read : {bytes : List ℕ} {u : MappedState} → IsMappedUberblock bytes u → fields_at bytes ≡ u
unfolding fields_at
fields_at-read {bytes} {u} is = same_fields (sym is.rules) is.group is.guid is.moment is.root is.import_number is.log_address is.log_number is.map

pub IsFormed-read : {bytes : List ℕ} {u : MappedState} → IsMappedUberblock bytes u → IsFormed bytes
unfolding zeros
IsFormed-read {bytes} {u} is =
    let limits : AreWithinLimits u.state = record { no_lower_group = is.no_lower_group; no_higher_group = is.no_higher_group; no_higher_import = is.no_higher_import; no_higher_log = is.no_higher_log } in
    record {
      head = (is.magic, is.version);
      clear = is.zeros;
      limits = subst (λ (v : MappedState). AreWithinLimits v.state) (sym (fields_at-read is)) limits;
      agrees = is.agrees;
    }

-- bytes are an uberblock of one list of fields at most
pub readings_agree : (bytes : List ℕ) (u v : MappedState) → IsMappedUberblock bytes u → IsMappedUberblock bytes v → u ≡ v
readings_agree bytes u v x y = sym (fields_at-read x) ∙ fields_at-read y

-- values with the same fields are the same
pub fields_of-same : (u v : MappedUberblock) → fields_of u ≡ fields_of v → u ≡ v
fields_of-same u v e =
    let state = plain.fields_of-same u.state v.state (ap (λ (f : MappedState). f.state) e) in
    let map = ap (λ (f : MappedState). f.map) e in
    λ i. record { state = state i; map = map i }
