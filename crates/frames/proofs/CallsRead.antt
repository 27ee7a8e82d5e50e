-- A request that is read is the one that was written, and what was written is read again.
use Rattle.std.proofs.Common.{◌≡◌, ℕ, ◌^◌, true, eqb, List, [], ◌∷◌, ◌++◌, Ok, refl, sym, subst, ◌∙◌, inl, inr}
use Rattle.std.specs.Int.{w32, w64, to_le_bytes}
use Rattle.std.proofs.lemmas.Bool.{eqb-true}
use Rattle.records.proofs.Fields.{IsBytes, Takes, Takes-then, wide32, wide64}
use Rattle.frames.specs.Reading.{◌>>=◌, call_in, durable_in, field_in, length_in, log_record_in, objects_in, one_byte_in, read_in, request_in, transact_durably_in, transact_in}
use Rattle.frames.specs.Requests.{IsCallAllowed, IsRequestAllowed, bytes_of_call, bytes_of_request, number_of_call}
use Rattle.frames.specs.declared.request.Call.{Call}
use Rattle.frames.specs.declared.request.Call.TheVariants as call
use Rattle.frames.specs.declared.request.Request.{Request}
use Rattle.frames.proofs.Steps.{bind_ok, bind-ok, ok, ok_is}
use Rattle.frames.proofs.Fields.{byte_takes, field_again, field_takes, log_record_again, log_record_takes}
use Rattle.base.proofs.common.Choices.{chosen}

-- bytes are what the call of this number needs, and a rest
abbrev TakesCall : ℕ → List ℕ → Call × List ℕ → Type 0
TakesCall number bytes x = Takes bytes (bytes_of_call x.0) x.1 × (number_of_call x.0 ≡ number) × IsCallAllowed x.0

transact_takes : (bytes : List ℕ) (x : Call × List ℕ) → IsBytes bytes → transact_in bytes ≡ Ok x → TakesCall 1 bytes x
unfolding transact_in
transact_takes bytes x fits e =
    let a = bind_ok (log_record_in bytes) (λ committed. Ok (call.Transact committed.0, committed.1)) x e in
    let t = log_record_takes bytes a.0 fits a.1 in
    let made : Call × List ℕ = (call.Transact a.0.0, a.0.1) in
    subst (λ (y : Call × List ℕ). TakesCall 1 bytes y) (ok_is made x a.2) (t.0, refl, t.1)

transact_durably_takes : (bytes : List ℕ) (x : Call × List ℕ) → IsBytes bytes → transact_durably_in bytes ≡ Ok x → TakesCall 2 bytes x
unfolding transact_durably_in
transact_durably_takes bytes x fits e =
    let a = bind_ok (log_record_in bytes) (λ committed. Ok (call.TransactDurably committed.0, committed.1)) x e in
    let t = log_record_takes bytes a.0 fits a.1 in
    let made : Call × List ℕ = (call.TransactDurably a.0.0, a.0.1) in
    subst (λ (y : Call × List ℕ). TakesCall 2 bytes y) (ok_is made x a.2) (t.0, refl, t.1)

read_takes : (bytes : List ℕ) (x : Call × List ℕ) → IsBytes bytes → read_in bytes ≡ Ok x → TakesCall 3 bytes x
unfolding read_in
read_takes bytes x fits e =
    let a = bind_ok (field_in w32 bytes) (λ object. field_in w64 object.1 >>= λ low. field_in w64 low.1 >>= λ high. Ok (call.Read (record { 0 = object.0 }) (record { low = low.0; high = high.0 }), high.1)) x e in
    let b = bind_ok (field_in w64 a.0.1) (λ low. field_in w64 low.1 >>= λ high. Ok (call.Read (record { 0 = a.0.0 }) (record { low = low.0; high = high.0 }), high.1)) x a.2 in
    let c = bind_ok (field_in w64 b.0.1) (λ high. Ok (call.Read (record { 0 = a.0.0 }) (record { low = b.0.0; high = high.0 }), high.1)) x b.2 in
    let t0 = field_takes w32 (2 ^ 32) wide32 bytes a.0.0 a.0.1 fits a.1 in
    let t1 = field_takes w64 (2 ^ 64) wide64 a.0.1 b.0.0 b.0.1 t0.0.rest_fits b.1 in
    let t2 = field_takes w64 (2 ^ 64) wide64 b.0.1 c.0.0 c.0.1 t1.0.rest_fits c.1 in
    let e12 = Takes-then a.0.1 (to_le_bytes w64 b.0.0) b.0.1 (to_le_bytes w64 c.0.0) c.0.1 t1.0 t2.0 in
    let e02 = Takes-then bytes (to_le_bytes w32 a.0.0) a.0.1 (to_le_bytes w64 b.0.0 ++ to_le_bytes w64 c.0.0) c.0.1 t0.0 e12 in
    let made : Call × List ℕ = (call.Read (record { 0 = a.0.0 }) (record { low = b.0.0; high = c.0.0 }), c.0.1) in
    subst (λ (y : Call × List ℕ). TakesCall 3 bytes y) (ok_is made x c.2) (e02, refl, (t0.1, t1.1, t2.1))

length_takes : (bytes : List ℕ) (x : Call × List ℕ) → IsBytes bytes → length_in bytes ≡ Ok x → TakesCall 4 bytes x
unfolding length_in
length_takes bytes x fits e =
    let a = bind_ok (field_in w32 bytes) (λ object. Ok (call.Length (record { 0 = object.0 }), object.1)) x e in
    let t = field_takes w32 (2 ^ 32) wide32 bytes a.0.0 a.0.1 fits a.1 in
    let made : Call × List ℕ = (call.Length (record { 0 = a.0.0 }), a.0.1) in
    subst (λ (y : Call × List ℕ). TakesCall 4 bytes y) (ok_is made x a.2) (t.0, refl, t.1)

objects_takes : (bytes : List ℕ) (x : Call × List ℕ) → IsBytes bytes → objects_in bytes ≡ Ok x → TakesCall 5 bytes x
unfolding objects_in
objects_takes bytes x fits e =
    let a = bind_ok (field_in w32 bytes) (λ first. field_in w32 first.1 >>= λ past. Ok (call.Objects (record { 0 = first.0 }) (record { 0 = past.0 }), past.1)) x e in
    let b = bind_ok (field_in w32 a.0.1) (λ past. Ok (call.Objects (record { 0 = a.0.0 }) (record { 0 = past.0 }), past.1)) x a.2 in
    let t0 = field_takes w32 (2 ^ 32) wide32 bytes a.0.0 a.0.1 fits a.1 in
    let t1 = field_takes w32 (2 ^ 32) wide32 a.0.1 b.0.0 b.0.1 t0.0.rest_fits b.1 in
    let both = Takes-then bytes (to_le_bytes w32 a.0.0) a.0.1 (to_le_bytes w32 b.0.0) b.0.1 t0.0 t1.0 in
    let made : Call × List ℕ = (call.Objects (record { 0 = a.0.0 }) (record { 0 = b.0.0 }), b.0.1) in
    subst (λ (y : Call × List ℕ). TakesCall 5 bytes y) (ok_is made x b.2) (both, refl, (t0.1, t1.1))

durable_takes : (bytes : List ℕ) (x : Call × List ℕ) → IsBytes bytes → durable_in bytes ≡ Ok x → TakesCall 7 bytes x
unfolding durable_in
durable_takes bytes x fits e =
    let a = bind_ok (field_in w64 bytes) (λ ordinal. field_in w64 ordinal.1 >>= λ group. Ok (call.Durable (record { ordinal = record { 0 = ordinal.0 }; group = record { 0 = group.0 } }), group.1)) x e in
    let b = bind_ok (field_in w64 a.0.1) (λ group. Ok (call.Durable (record { ordinal = record { 0 = a.0.0 }; group = record { 0 = group.0 } }), group.1)) x a.2 in
    let t0 = field_takes w64 (2 ^ 64) wide64 bytes a.0.0 a.0.1 fits a.1 in
    let t1 = field_takes w64 (2 ^ 64) wide64 a.0.1 b.0.0 b.0.1 t0.0.rest_fits b.1 in
    let both = Takes-then bytes (to_le_bytes w64 a.0.0) a.0.1 (to_le_bytes w64 b.0.0) b.0.1 t0.0 t1.0 in
    let made : Call × List ℕ = (call.Durable (record { ordinal = record { 0 = a.0.0 }; group = record { 0 = b.0.0 } }), b.0.1) in
    subst (λ (y : Call × List ℕ). TakesCall 7 bytes y) (ok_is made x b.2) (both, refl, (t0.1, t1.1))

-- a call that needs nothing
bare_takes : (number : ℕ) (asked : Call) (bytes : List ℕ) (x : Call × List ℕ) → IsBytes bytes → bytes_of_call asked ≡ [] → number_of_call asked ≡ number → IsCallAllowed asked → ok (asked, bytes) ≡ Ok x → TakesCall number bytes x
bare_takes number asked bytes x fits nothing numbered allowed e =
    subst (λ (y : Call × List ℕ). TakesCall number bytes y) (ok_is (asked, bytes) x e) (record { parts = rw nothing refl; rest_fits = fits }, numbered, allowed)

-- what is taken as the call of a number that a test found
as_found : (n k : ℕ) (bytes : List ℕ) (x : Call × List ℕ) → eqb n k ≡ true → TakesCall k bytes x → TakesCall n bytes x
as_found n k bytes x is taken = subst (λ (t : ℕ). TakesCall t bytes x) (sym (eqb-true n k is)) taken

call_takes : (n : ℕ) (bytes : List ℕ) (x : Call × List ℕ) → IsBytes bytes → call_in n bytes ≡ Ok x → TakesCall n bytes x
unfolding call_in
call_takes n bytes x fits e =
    elim (chosen (eqb n 1) _ _ _ e) [
      | inl here ↦ as_found n 1 bytes x here.0 (transact_takes bytes x fits here.1)
      | inr past_1 ↦ elim (chosen (eqb n 2) _ _ _ past_1.1) [
        | inl here ↦ as_found n 2 bytes x here.0 (transact_durably_takes bytes x fits here.1)
        | inr past_2 ↦ elim (chosen (eqb n 3) _ _ _ past_2.1) [
          | inl here ↦ as_found n 3 bytes x here.0 (read_takes bytes x fits here.1)
          | inr past_3 ↦ elim (chosen (eqb n 4) _ _ _ past_3.1) [
            | inl here ↦ as_found n 4 bytes x here.0 (length_takes bytes x fits here.1)
            | inr past_4 ↦ elim (chosen (eqb n 5) _ _ _ past_4.1) [
              | inl here ↦ as_found n 5 bytes x here.0 (objects_takes bytes x fits here.1)
              | inr past_5 ↦ elim (chosen (eqb n 6) _ _ _ past_5.1) [
                | inl here ↦ as_found n 6 bytes x here.0 (bare_takes 6 call.Status bytes x fits refl refl tt here.1)
                | inr past_6 ↦ elim (chosen (eqb n 7) _ _ _ past_6.1) [
                  | inl here ↦ as_found n 7 bytes x here.0 (durable_takes bytes x fits here.1)
                  | inr past_7 ↦ elim (chosen (eqb n 8) _ _ _ past_7.1) [
                    | inl here ↦ as_found n 8 bytes x here.0 (bare_takes 8 call.Flush bytes x fits refl refl tt here.1)
                    | inr past_8 ↦ elim (chosen (eqb n 9) _ _ _ past_8.1) [
                      | inl here ↦ as_found n 9 bytes x here.0 (bare_takes 9 call.Sync bytes x fits refl refl tt here.1)
                      | inr past_9 ↦ elim (chosen (eqb n 10) _ _ _ past_9.1) [
                        | inl here ↦ as_found n 10 bytes x here.0 (bare_takes 10 call.Name bytes x fits refl refl tt here.1)
                        | inr none ↦ let no = none.1 in absurd cc
                      ]
                    ]
                  ]
                ]
              ]
            ]
          ]
        ]
      ]
    ]

pub request_takes : (bytes : List ℕ) (x : Request × List ℕ) → IsBytes bytes → request_in bytes ≡ Ok x → Takes bytes (bytes_of_request x.0) x.1 × IsRequestAllowed x.0
unfolding request_in
request_takes bytes x fits e =
    let a = bind_ok (field_in w64 bytes) (λ number. one_byte_in number.1 >>= λ tag. call_in tag.0 tag.1 >>= λ asked. Ok (record { number = number.0; call = asked.0 }, asked.1)) x e in
    let b = bind_ok (one_byte_in a.0.1) (λ tag. call_in tag.0 tag.1 >>= λ asked. Ok (record { number = a.0.0; call = asked.0 }, asked.1)) x a.2 in
    let c = bind_ok (call_in b.0.0 b.0.1) (λ asked. Ok (record { number = a.0.0; call = asked.0 }, asked.1)) x b.2 in
    let t0 = field_takes w64 (2 ^ 64) wide64 bytes a.0.0 a.0.1 fits a.1 in
    let t1 = byte_takes a.0.1 b.0.0 b.0.1 t0.0.rest_fits b.1 in
    let t2 = call_takes b.0.0 b.0.1 c.0 t1.rest_fits c.1 in
    let tagged : Takes a.0.1 (number_of_call c.0.0 ∷ []) b.0.1 = subst (λ (n : ℕ). Takes a.0.1 (n ∷ []) b.0.1) (sym t2.1) t1 in
    let e12 = Takes-then a.0.1 (number_of_call c.0.0 ∷ []) b.0.1 (bytes_of_call c.0.0) c.0.1 tagged t2.0 in
    let e02 = Takes-then bytes (to_le_bytes w64 a.0.0) a.0.1 (number_of_call c.0.0 ∷ bytes_of_call c.0.0) c.0.1 t0.0 e12 in
    let made : Request × List ℕ = (record { number = a.0.0; call = c.0.0 }, c.0.1) in
    subst (λ (y : Request × List ℕ). Takes bytes (bytes_of_request y.0) y.1 × IsRequestAllowed y.0) (ok_is made x c.2) (e02, record { number = t0.1; call = t2.2 })

-- what is written is read again
call_again : (asked : Call) (rest : List ℕ) → IsCallAllowed asked → call_in (number_of_call asked) (bytes_of_call asked ++ rest) ≡ Ok (asked, rest)
unfolding call_in transact_in transact_durably_in read_in length_in objects_in durable_in
call_again (call.Transact r) rest allowed =
    bind-ok (log_record_in (bytes_of_call (call.Transact r) ++ rest)) (λ committed. Ok (call.Transact committed.0, committed.1)) (r, rest) (log_record_again r rest allowed)
call_again (call.TransactDurably r) rest allowed =
    bind-ok (log_record_in (bytes_of_call (call.TransactDurably r) ++ rest)) (λ committed. Ok (call.TransactDurably committed.0, committed.1)) (r, rest) (log_record_again r rest allowed)
call_again (call.Read object range) rest allowed =
    let low_on : List ℕ = to_le_bytes w64 range.low ++ (to_le_bytes w64 range.high ++ rest) in
    let high_on : List ℕ = to_le_bytes w64 range.high ++ rest in
    bind-ok (field_in w32 (to_le_bytes w32 object.0 ++ low_on)) (λ n. field_in w64 n.1 >>= λ low. field_in w64 low.1 >>= λ high. Ok (call.Read (record { 0 = n.0 }) (record { low = low.0; high = high.0 }), high.1)) (object.0, low_on)
    (field_again w32 (2 ^ 32) wide32 object.0 low_on allowed.0)
    ∙ bind-ok (field_in w64 low_on) (λ low. field_in w64 low.1 >>= λ high. Ok (call.Read object (record { low = low.0; high = high.0 }), high.1)) (range.low, high_on)
    (field_again w64 (2 ^ 64) wide64 range.low high_on allowed.1)
    ∙ bind-ok (field_in w64 high_on) (λ high. Ok (call.Read object (record { low = range.low; high = high.0 }), high.1)) (range.high, rest)
    (field_again w64 (2 ^ 64) wide64 range.high rest allowed.2)
call_again (call.Length object) rest allowed =
    bind-ok (field_in w32 (to_le_bytes w32 object.0 ++ rest)) (λ n. Ok (call.Length (record { 0 = n.0 }), n.1)) (object.0, rest) (field_again w32 (2 ^ 32) wide32 object.0 rest allowed)
call_again (call.Objects first past) rest allowed =
    let past_on : List ℕ = to_le_bytes w32 past.0 ++ rest in
    bind-ok (field_in w32 (to_le_bytes w32 first.0 ++ past_on)) (λ n. field_in w32 n.1 >>= λ m. Ok (call.Objects (record { 0 = n.0 }) (record { 0 = m.0 }), m.1)) (first.0, past_on)
    (field_again w32 (2 ^ 32) wide32 first.0 past_on allowed.0)
    ∙ bind-ok (field_in w32 past_on) (λ m. Ok (call.Objects first (record { 0 = m.0 }), m.1)) (past.0, rest) (field_again w32 (2 ^ 32) wide32 past.0 rest allowed.1)
call_again call.Status rest allowed = refl
call_again (call.Durable r) rest allowed =
    let group_on : List ℕ = to_le_bytes w64 r.group.0 ++ rest in
    bind-ok (field_in w64 (to_le_bytes w64 r.ordinal.0 ++ group_on)) (λ ordinal. field_in w64 ordinal.1 >>= λ group. Ok (call.Durable (record { ordinal = record { 0 = ordinal.0 }; group = record { 0 = group.0 } }), group.1)) (r.ordinal.0, group_on)
    (field_again w64 (2 ^ 64) wide64 r.ordinal.0 group_on allowed.0)
    ∙ bind-ok (field_in w64 group_on) (λ group. Ok (call.Durable (record { ordinal = r.ordinal; group = record { 0 = group.0 } }), group.1)) (r.group.0, rest) (field_again w64 (2 ^ 64) wide64 r.group.0 rest allowed.1)
call_again call.Flush rest allowed = refl
call_again call.Sync rest allowed = refl
call_again call.Name rest allowed = refl

pub request_again : (r : Request) (rest : List ℕ) → IsRequestAllowed r → request_in (bytes_of_request r ++ rest) ≡ Ok (r, rest)
unfolding request_in
request_again r rest allowed =
    let fields_on : List ℕ = bytes_of_call r.call ++ rest in
    let tag_on : List ℕ = number_of_call r.call ∷ fields_on in
    bind-ok (field_in w64 (to_le_bytes w64 r.number ++ tag_on)) (λ number. one_byte_in number.1 >>= λ tag. call_in tag.0 tag.1 >>= λ asked. Ok (record { number = number.0; call = asked.0 }, asked.1)) (r.number, tag_on)
    (field_again w64 (2 ^ 64) wide64 r.number tag_on allowed.number)
    ∙ bind-ok (call_in (number_of_call r.call) fields_on) (λ asked. Ok (record { number = r.number; call = asked.0 }, asked.1)) (r.call, rest) (call_again r.call rest allowed.call)
