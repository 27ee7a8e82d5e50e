-- A field or a log record that is read is the one that was written, and what was written is read again.
use Rattle.std.proofs.Common.{◌≡◌, ℕ, suc, ◌+◌, ◌<◌, List, [], ◌∷◌, ◌++◌, length, get_or, drop, Option, Some, None, Ok, Err, refl, ap, subst, ◌∙◌}
use Rattle.std.specs.Int.{Width, to_le_bytes}
use Rattle.std.proofs.lemmas.List.{drop_at, get_or-drop}
use Rattle.base.specs.formats.Records as formats
use Rattle.base.specs.formats.Records.{HasNoRecord, IsAllowed, IsDecoded, bytes_of_record}
use Rattle.records.specs.Reading.{number_in, record_in}
use Rattle.records.specs.Records.{record_fields}
use Rattle.records.specs.declared.record.Record.{Record}
use Rattle.records.proofs.Fields.{IsBytes, IsWide, Takes, number_again, number_takes}
use Rattle.records.proofs.RecordsRead.{record_again, record_takes}
use Rattle.frames.specs.Reading.{declared_record, field_in, log_record_in, one_byte_in, or_error}
use Rattle.frames.specs.declared.error.FrameError.TheVariants as error
use Rattle.frames.proofs.Steps.{bind_ok, bind-ok, ok_is, there}

pub field_takes : (w : Width) (limit : ℕ) (wide : IsWide w limit) (bytes : List ℕ) (n : ℕ) (rest : List ℕ) → IsBytes bytes → field_in w bytes ≡ Ok (n, rest) → Takes bytes (to_le_bytes w n) rest × (n < limit)
unfolding field_in
field_takes w limit wide bytes n rest fits e = number_takes w limit wide bytes n rest fits (there error.CutOff (number_in w bytes) (n, rest) e)

pub field_again : (w : Width) (limit : ℕ) (wide : IsWide w limit) (n : ℕ) (rest : List ℕ) → n < limit → field_in w (to_le_bytes w n ++ rest) ≡ Ok (n, rest)
unfolding field_in
field_again w limit wide n rest lt = ap (or_error error.CutOff) (number_again w limit wide n rest lt)

pub byte_takes : (bytes : List ℕ) (b : ℕ) (rest : List ℕ) → IsBytes bytes → one_byte_in bytes ≡ Ok (b, rest) → Takes bytes (b ∷ []) rest
byte_takes [] b rest fits e = absurd cc
byte_takes (c ∷ bytes) b rest fits e =
    let same = ok_is (c, bytes) (b, rest) e in
    subst (λ (p : ℕ × List ℕ). Takes (c ∷ bytes) (p.0 ∷ []) p.1) same (record { parts = refl; rest_fits = λ i. fits (suc i) })

-- what stands behind bytes is bytes
IsBytes-behind : (front rest : List ℕ) → IsBytes (front ++ rest) → IsBytes rest
IsBytes-behind front rest h i =
    let all : IsBytes (drop (length front) (front ++ rest)) = λ j. rw get_or-drop (h (length front + j)) in
    subst (λ (l : List ℕ). get_or l i 0 < 256) (drop_at front rest (length front) refl) (all i)

decoded_takes : (bytes : List ℕ) (r : formats.Record) (rest : List ℕ) → IsBytes bytes → IsDecoded bytes r rest → Takes bytes (bytes_of_record r) rest
decoded_takes bytes r rest fits d = record { parts = d.spelled; rest_fits = IsBytes-behind (bytes_of_record r) rest (subst IsBytes d.spelled fits) }

pub log_record_takes : (bytes : List ℕ) (x : Record × List ℕ) → IsBytes bytes → log_record_in bytes ≡ Ok x → Takes bytes (bytes_of_record (record_fields x.0)) x.1 × IsAllowed (record_fields x.0)
unfolding log_record_in
log_record_takes bytes x fits e =
    let a = bind_ok (or_error error.BadRecord (record_in bytes)) (λ found. Ok (declared_record found.0, found.1)) x e in
    let d = record_takes bytes a.0 fits (there error.BadRecord (record_in bytes) a.0 a.1) in
    let made : Record × List ℕ = (declared_record a.0.0, a.0.1) in
    subst (λ (y : Record × List ℕ). Takes bytes (bytes_of_record (record_fields y.0)) y.1 × IsAllowed (record_fields y.0)) (ok_is made x a.2) (decoded_takes bytes a.0.0 a.0.1 fits d, d.allowed)

pub log_record_again : (r : Record) (rest : List ℕ) → IsAllowed (record_fields r) → log_record_in (bytes_of_record (record_fields r) ++ rest) ≡ Ok (r, rest)
unfolding log_record_in
log_record_again r rest allowed =
    bind-ok (or_error error.BadRecord (record_in (bytes_of_record (record_fields r) ++ rest))) (λ found. Ok (declared_record found.0, found.1)) (record_fields r, rest)
    (ap (or_error error.BadRecord) (record_again (record_fields r) rest allowed))

-- what code found is what is read
pub found_is : (bytes : List ℕ) (r : Record) (rest : List ℕ) → IsDecoded bytes (record_fields r) rest → log_record_in bytes ≡ Ok (r, rest)
found_is bytes r rest d = ap log_record_in d.spelled ∙ log_record_again r rest d.allowed

no_record : (bytes : List ℕ) (o : Option (formats.Record × List ℕ)) → IsBytes bytes → HasNoRecord bytes → record_in bytes ≡ o → o ≡ None
no_record bytes None fits none e = refl
no_record bytes (Some x) fits none e = absurd (none x.0 x.1 (record_takes bytes x fits e))

pub none_found : (bytes : List ℕ) → IsBytes bytes → HasNoRecord bytes → log_record_in bytes ≡ Err error.BadRecord
unfolding log_record_in
none_found bytes fits none = rw (no_record bytes (record_in bytes) fits none refl) refl
