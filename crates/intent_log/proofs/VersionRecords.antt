-- Which records a version has: the test of the code, and bytes whose records it has not.
use Rattle.std.proofs.Common.{◌≡◌, ℕ, true, List, [], ◌∷◌, map, refl, sym, subst, ◌∙◌}
use Rattle.std.specs.Prelude.{All}
use Rattle.std.specs.List.{list_all}
use Rattle.std.proofs.lemmas.Bool.{and_parts}
use Rattle.std.proofs.lemmas.List.Elements.{All-cons, All-head, All-nil, All-tail}
use Rattle.base.specs.declared.version.Version.{Version}
use Rattle.base.specs.formats.Records.{Record, IsOneLevelRecord, is_one_level_op}
use Rattle.base.proofs.formats.RecordSpelling.{one-spelling}
use Rattle.records.specs.Records.{record_fields}
use Rattle.records.specs.declared.record.Record as code
use Rattle.intent_log.specs.Chains.{AreOfVersion, AreRecordsOf, HasNoRecords, HasNoneOfVersion}

-- each record ends within the length of one level if the test says so, and only then
pub tested_all : (rs : List code.Record) → list_all (λ (r : code.Record). list_all is_one_level_op r.ops) rs ≡ true → All IsOneLevelRecord (map record_fields rs)
tested_all [] tested = All-nil IsOneLevelRecord
tested_all (r ∷ rs) tested =
    let parts = and_parts (list_all is_one_level_op r.ops) (list_all (λ (x : code.Record). list_all is_one_level_op x.ops) rs) tested in
    All-cons IsOneLevelRecord (record_fields r) (map record_fields rs) parts.0 (tested_all rs parts.1)

pub all_tested : (rs : List code.Record) → All IsOneLevelRecord (map record_fields rs) → list_all (λ (r : code.Record). list_all is_one_level_op r.ops) rs ≡ true
all_tested [] all = refl
all_tested (r ∷ rs) all =
    let first : list_all is_one_level_op r.ops ≡ true = All-head IsOneLevelRecord (record_fields r) (map record_fields rs) all in
    let rest : list_all (λ (x : code.Record). list_all is_one_level_op x.ops) rs ≡ true = all_tested rs (All-tail IsOneLevelRecord (record_fields r) (map record_fields rs) all) in
    rw (first, rest) refl

-- bytes whose records are others are none of the version, and so are bytes that are no records
pub none_of_others : (version : Version) (bytes : List ℕ) (rs : List Record) → AreRecordsOf bytes rs → (AreOfVersion version rs → ⊥) → HasNoneOfVersion version bytes
none_of_others version bytes rs are others ss same_bytes of_version =
    let same : ss ≡ rs = one-spelling ss rs same_bytes.allowed are.allowed (sym same_bytes.spelled ∙ are.spelled) in
    others (subst (λ (l : List Record). AreOfVersion version l) same of_version)

pub none_of_none : (version : Version) (bytes : List ℕ) → HasNoRecords bytes → HasNoneOfVersion version bytes
none_of_none version bytes none ss are of_version = none ss are
