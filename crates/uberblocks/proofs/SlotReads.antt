-- When bytes are an uberblock, and of which fields.
use Rattle.std.proofs.Common.{ℕ, ◌≡◌, List, length, refl, sym, ap, ◌∙◌, subst}
use Rattle.base.specs.declared.pointer.Pointer.{Pointer}
use Rattle.base.specs.formats.Uberblocks.{Uberblock as Fields, IsUberblock, IsSealedSlot}
use Rattle.base.specs.formats.Versions.{version_of}
use Rattle.base.specs.declared.version.Version.{Version}
use Rattle.base.proofs.formats.Versions.{version_of-number_of_version}
use Rattle.base.proofs.crash.OneMount.{one-reading}
use Rattle.uberblocks.specs.declared.uberblock.Uberblock.{Uberblock}
use Rattle.uberblocks.specs.Slots.{fields_of, fields_at, zeros, HasMagic, HasZeros, IsWithinLimits}

-- what bytes have that are an uberblock of the fields in their places
pub record IsFormed (bytes : List ℕ) : Type 0 where
  pub magic : HasMagic bytes
  pub clear : HasZeros bytes
  pub limits : IsWithinLimits (fields_at bytes)
  pub agrees : IsSealedSlot bytes

pub IsUberblock-formed : (bytes : List ℕ) → length bytes ≡ 1024 → IsFormed bytes → IsUberblock bytes (fields_at bytes)
unfolding fields_at zeros
IsUberblock-formed bytes long f =
    record {
      size = long;
      magic = f.magic;
      version = refl;
      group = refl;
      guid = refl;
      moment = refl;
      root = refl;
      import_number = refl;
      log_address = refl;
      log_number = refl;
      zeros = f.clear;
      agrees = f.agrees;
      version_known = f.limits.version_known;
      no_lower_group = f.limits.no_lower_group;
      no_higher_group = f.limits.no_higher_group;
      no_higher_import = f.limits.no_higher_import;
      no_higher_log = f.limits.no_higher_log;
    }

-- the fields of an uberblock are those in their places
pub fields_at-read : {bytes : List ℕ} {u : Fields} → IsUberblock bytes u → fields_at bytes ≡ u
unfolding fields_at
fields_at-read {bytes} {u} is = same is.version is.group is.guid is.moment is.root is.import_number is.log_address is.log_number
  where
    same : {h a b c e f g : ℕ} {d : Pointer} → h ≡ u.version → a ≡ u.group → b ≡ u.guid → c ≡ u.moment → d ≡ u.root → e ≡ u.import_number → f ≡ u.log_address → g ≡ u.log_number
        → record { version = h; group = a; guid = b; moment = c; root = d; import_number = e; log_address = f; log_number = g } ≡ u
    same o p q r s t v w = rw (o, p, q, r, s, t, v, w) refl

pub IsFormed-read : {bytes : List ℕ} {u : Fields} → IsUberblock bytes u → IsFormed bytes
unfolding zeros
IsFormed-read {bytes} {u} is =
    let limits : IsWithinLimits u = record { version_known = is.version_known; no_lower_group = is.no_lower_group; no_higher_group = is.no_higher_group; no_higher_import = is.no_higher_import; no_higher_log = is.no_higher_log } in
    record {
      magic = is.magic;
      clear = is.zeros;
      limits = subst (λ (v : Fields). IsWithinLimits v) (sym (fields_at-read is)) limits;
      agrees = is.agrees;
    }

-- bytes are an uberblock of one list of fields at most
pub readings_agree : (bytes : List ℕ) (u v : Fields) → IsUberblock bytes u → IsUberblock bytes v → u ≡ v
readings_agree = one-reading

-- the value with these fields
abbrev made_of : Version → Fields → Uberblock
made_of version f =
    record { version = version; group = record { 0 = f.group }; guid = f.guid; moment = f.moment; root = f.root; import_number = f.import_number; log_address = f.log_address; log_number = f.log_number }

-- values with the same fields are the same
pub fields_of-same : (u v : Uberblock) → fields_of u ≡ fields_of v → u ≡ v
fields_of-same u v e =
    let version : u.version ≡ v.version = sym (version_of-number_of_version u.version) ∙ ap (λ (f : Fields). version_of f.version) e ∙ version_of-number_of_version v.version in
    λ i. made_of (version i) (e i)
