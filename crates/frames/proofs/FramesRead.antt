-- What is read as a frame is spelled so, and what is spelled of requests is read again.
use Rattle.std.proofs.Common.{◌≡◌, ℕ, ◌+◌, ◌^◌, ◌<◌, ◌≤◌, Bool, false, eqb, List, [], ◌∷◌, ◌++◌, length, length-append, Ok, refl, sym, ap, subst, ◌∙◌, arith, inl, inr}
use Rattle.std.specs.Prelude.{not, nat_lt}
use Rattle.std.specs.Int.{w16, w32, to_le_bytes}
use Rattle.std.proofs.lemmas.Bool.{or_parts, eqb-true, eq-eqb, ltb-false, le-ltb, not-false, not_from_true}
use Rattle.std.proofs.lemmas.List.{append-nil, nil_from_length}
use Rattle.std.proofs.lemmas.List.Concat.{flat_map-cons}
use Rattle.records.proofs.Fields.{IsBytes, Takes, Takes-then, wide16, wide32}
use Rattle.frames.specs.Limits.{frame_head, frame_version, max_frame, requests_kind}
use Rattle.frames.specs.Reading.{◌>>=◌, Fails, error_if, field_in, frame_in, head_in, is_length_refused, requests_in}
use Rattle.frames.specs.Requests.{AreAllowed, IsFrameOf, bytes_of_all, bytes_of_frame, bytes_of_request, bytes_of_requests, room_of_answers}
use Rattle.frames.specs.declared.error.FrameError.{FrameError}
use Rattle.frames.specs.declared.error.FrameError.TheVariants as error
use Rattle.frames.specs.declared.request.Request.{Request}
use Rattle.frames.proofs.Steps.{bind_ok, bind-ok, ok_is, passes}
use Rattle.frames.proofs.Fields.{field_again, field_takes}
use Rattle.frames.proofs.RequestsRead.{requests_again, requests_take}

-- the bytes of a frame that says this length
abbrev said : ℕ → ℕ → List ℕ → List ℕ
said size count items = to_le_bytes w32 size ++ (to_le_bytes w16 frame_version ++ (to_le_bytes w16 requests_kind ++ (to_le_bytes w32 count ++ items)))

length-said : (size count : ℕ) (items : List ℕ) → length (said size count items) ≡ frame_head + length items
length-said size count items = omega arith

-- bytes begin with the head of a frame of so many requests
record HasHead (bytes : List ℕ) (count : ℕ) (rest : List ℕ) : Type 0 where
  pub size : ℕ
  pub fits : IsBytes rest
  pub onward : (items end : List ℕ) → Takes rest items end → Takes bytes (said size count items) end
  pub sized : size ≡ length bytes
  pub small : size ≤ max_frame

head_takes : (bytes : List ℕ) (x : ℕ × List ℕ) → IsBytes bytes → head_in bytes ≡ Ok x → HasHead bytes x.0 x.1
unfolding head_in
head_takes bytes x fits e =
    let a = bind_ok (field_in w32 bytes) (λ size. error_if (is_length_refused size.0 bytes) error.BadLength >>= λ sized. field_in w16 size.1 >>= λ version. error_if (not (eqb version.0 frame_version)) error.BadVersion >>= λ known. field_in w16 version.1 >>= λ kind. error_if (not (eqb kind.0 requests_kind)) error.BadKind >>= λ asking. field_in w32 kind.1) x e in
    let b = bind_ok (error_if (is_length_refused a.0.0 bytes) error.BadLength) (λ sized. field_in w16 a.0.1 >>= λ version. error_if (not (eqb version.0 frame_version)) error.BadVersion >>= λ known. field_in w16 version.1 >>= λ kind. error_if (not (eqb kind.0 requests_kind)) error.BadKind >>= λ asking. field_in w32 kind.1) x a.2 in
    let c = bind_ok (field_in w16 a.0.1) (λ version. error_if (not (eqb version.0 frame_version)) error.BadVersion >>= λ known. field_in w16 version.1 >>= λ kind. error_if (not (eqb kind.0 requests_kind)) error.BadKind >>= λ asking. field_in w32 kind.1) x b.2 in
    let d = bind_ok (error_if (not (eqb c.0.0 frame_version)) error.BadVersion) (λ known. field_in w16 c.0.1 >>= λ kind. error_if (not (eqb kind.0 requests_kind)) error.BadKind >>= λ asking. field_in w32 kind.1) x c.2 in
    let f = bind_ok (field_in w16 c.0.1) (λ kind. error_if (not (eqb kind.0 requests_kind)) error.BadKind >>= λ asking. field_in w32 kind.1) x d.2 in
    let g = bind_ok (error_if (not (eqb f.0.0 requests_kind)) error.BadKind) (λ asking. field_in w32 f.0.1) x f.2 in
    let lengths = or_parts (not (eqb a.0.0 (length bytes))) (nat_lt max_frame a.0.0) (passes (is_length_refused a.0.0 bytes) error.BadLength b.0 b.1) in
    let version-is : c.0.0 ≡ frame_version = eqb-true c.0.0 frame_version (not-false (eqb c.0.0 frame_version) (passes (not (eqb c.0.0 frame_version)) error.BadVersion d.0 d.1)) in
    let kind-is : f.0.0 ≡ requests_kind = eqb-true f.0.0 requests_kind (not-false (eqb f.0.0 requests_kind) (passes (not (eqb f.0.0 requests_kind)) error.BadKind g.0 g.1)) in
    let t0 = field_takes w32 (2 ^ 32) wide32 bytes a.0.0 a.0.1 fits a.1 in
    let t1 = field_takes w16 (2 ^ 16) wide16 a.0.1 c.0.0 c.0.1 t0.0.rest_fits c.1 in
    let t2 = field_takes w16 (2 ^ 16) wide16 c.0.1 f.0.0 f.0.1 t1.0.rest_fits f.1 in
    let t3 = field_takes w32 (2 ^ 32) wide32 f.0.1 x.0 x.1 t2.0.rest_fits g.2 in
    let version : Takes a.0.1 (to_le_bytes w16 frame_version) c.0.1 = subst (λ (n : ℕ). Takes a.0.1 (to_le_bytes w16 n) c.0.1) version-is t1.0 in
    let kind : Takes c.0.1 (to_le_bytes w16 requests_kind) f.0.1 = subst (λ (n : ℕ). Takes c.0.1 (to_le_bytes w16 n) f.0.1) kind-is t2.0 in
    record {
      size = a.0.0;
      fits = t3.0.rest_fits;
      onward = λ items end t. Takes-then bytes (to_le_bytes w32 a.0.0) a.0.1 (to_le_bytes w16 frame_version ++ (to_le_bytes w16 requests_kind ++ (to_le_bytes w32 x.0 ++ items))) end t0.0
          (Takes-then a.0.1 (to_le_bytes w16 frame_version) c.0.1 (to_le_bytes w16 requests_kind ++ (to_le_bytes w32 x.0 ++ items)) end version
          (Takes-then c.0.1 (to_le_bytes w16 requests_kind) f.0.1 (to_le_bytes w32 x.0 ++ items) end kind
          (Takes-then f.0.1 (to_le_bytes w32 x.0) x.1 items end t3.0 t)));
      sized = eqb-true a.0.0 (length bytes) (not-false (eqb a.0.0 (length bytes)) lengths.0);
      small = ltb-false max_frame a.0.0 lengths.1;
    }

pub frame_takes : (bytes : List ℕ) (requests : List Request) → IsBytes bytes → frame_in bytes ≡ Ok requests → IsFrameOf bytes requests
unfolding frame_in
frame_takes bytes requests fits e =
    let a = bind_ok (head_in bytes) (λ head. requests_in head.0 head.1 >>= λ found. error_if (not (eqb (length found.1) 0)) error.Surplus >>= λ ended. error_if (nat_lt max_frame (room_of_answers found.0)) error.AnswersTooLong >>= λ fitting. Ok found.0) requests e in
    let b = bind_ok (requests_in a.0.0 a.0.1) (λ found. error_if (not (eqb (length found.1) 0)) error.Surplus >>= λ ended. error_if (nat_lt max_frame (room_of_answers found.0)) error.AnswersTooLong >>= λ fitting. Ok found.0) requests a.2 in
    let c = bind_ok (error_if (not (eqb (length b.0.1) 0)) error.Surplus) (λ ended. error_if (nat_lt max_frame (room_of_answers b.0.0)) error.AnswersTooLong >>= λ fitting. Ok b.0.0) requests b.2 in
    let d = bind_ok (error_if (nat_lt max_frame (room_of_answers b.0.0)) error.AnswersTooLong) (λ fitting. Ok b.0.0) requests c.2 in
    let head = head_takes bytes a.0 fits a.1 in
    let t = requests_take a.0.0 a.0.1 b.0 head.fits b.1 in
    let nothing : b.0.1 ≡ [] = nil_from_length b.0.1 (eqb-true (length b.0.1) 0 (not-false (eqb (length b.0.1) 0) (passes (not (eqb (length b.0.1) 0)) error.Surplus c.0 c.1))) in
    let text : List ℕ = said head.size a.0.0 (bytes_of_all b.0.0) in
    let whole : bytes ≡ text = (head.onward (bytes_of_all b.0.0) b.0.1 t.0).parts ∙ ap (λ (l : List ℕ). text ++ l) nothing ∙ append-nil text in
    let long : length bytes ≡ frame_head + length (bytes_of_all b.0.0) = ap (λ (l : List ℕ). length l) whole ∙ length-said head.size a.0.0 (bytes_of_all b.0.0) in
    let size-is : head.size ≡ frame_head + length (bytes_of_all b.0.0) = head.sized ∙ long in
    let small = head.small in
    subst (λ (rs : List Request). IsFrameOf bytes rs) (ok_is b.0.0 requests d.2) (record {
      allowed = record {
        each = t.2;
        size = subst (λ (n : ℕ). n ≤ max_frame) size-is small;
        answers = ltb-false max_frame (room_of_answers b.0.0) (passes (nat_lt max_frame (room_of_answers b.0.0)) error.AnswersTooLong d.0 d.1);
      };
      spelled = whole ∙ (λ i. said (size-is i) (sym t.1 i) (bytes_of_all b.0.0));
    })

head_again : (count : ℕ) (items : List ℕ) → frame_head + length items ≤ max_frame → count < 2 ^ 32 → head_in (bytes_of_frame requests_kind count items) ≡ Ok (count, items)
unfolding head_in
head_again count items small few =
    let size : ℕ = frame_head + length items in
    let count_on : List ℕ = to_le_bytes w32 count ++ items in
    let kind_on : List ℕ = to_le_bytes w16 requests_kind ++ count_on in
    let version_on : List ℕ = to_le_bytes w16 frame_version ++ kind_on in
    let bytes : List ℕ = said size count items in
    let same : not (eqb size (length bytes)) ≡ false = not_from_true (eqb size (length bytes)) (eq-eqb size (length bytes) (sym (length-said size count items))) in
    let within : nat_lt max_frame size ≡ false = le-ltb max_frame size small in
    let sized : is_length_refused size bytes ≡ false = rw (same, within) refl in
    bind-ok (field_in w32 bytes) (λ size. error_if (is_length_refused size.0 bytes) error.BadLength >>= λ sized. field_in w16 size.1 >>= λ version. error_if (not (eqb version.0 frame_version)) error.BadVersion >>= λ known. field_in w16 version.1 >>= λ kind. error_if (not (eqb kind.0 requests_kind)) error.BadKind >>= λ asking. field_in w32 kind.1) (size, version_on)
    (field_again w32 (2 ^ 32) wide32 size version_on (omega (arith, small)))
    ∙ ap (λ (b : Bool). error_if b error.BadLength >>= λ sized. field_in w16 version_on >>= λ version. error_if (not (eqb version.0 frame_version)) error.BadVersion >>= λ known. field_in w16 version.1 >>= λ kind. error_if (not (eqb kind.0 requests_kind)) error.BadKind >>= λ asking. field_in w32 kind.1) sized
    ∙ bind-ok (field_in w16 version_on) (λ version. error_if (not (eqb version.0 frame_version)) error.BadVersion >>= λ known. field_in w16 version.1 >>= λ kind. error_if (not (eqb kind.0 requests_kind)) error.BadKind >>= λ asking. field_in w32 kind.1) (frame_version, kind_on)
    (field_again w16 (2 ^ 16) wide16 frame_version kind_on (omega arith))
    ∙ bind-ok (field_in w16 kind_on) (λ kind. error_if (not (eqb kind.0 requests_kind)) error.BadKind >>= λ asking. field_in w32 kind.1) (requests_kind, count_on)
    (field_again w16 (2 ^ 16) wide16 requests_kind count_on (omega arith))
    ∙ field_again w32 (2 ^ 32) wide32 count items few

-- requests are no more than their bytes
pub few_requests : (requests : List Request) → length requests ≤ length (bytes_of_all requests)
few_requests [] = omega arith
few_requests (r ∷ rs) =
    let others = few_requests rs in
    let split : length (bytes_of_all (r ∷ rs)) ≡ length (bytes_of_request r) + length (bytes_of_all rs) = ap (λ (l : List ℕ). length l) (flat_map-cons bytes_of_request r rs) ∙ length-append (bytes_of_request r) (bytes_of_all rs) in
    omega (arith, split, others)

pub frame_again : (requests : List Request) → AreAllowed requests → frame_in (bytes_of_requests requests) ≡ Ok requests
unfolding frame_in
frame_again requests allowed =
    let small = allowed.size in
    let answers = allowed.answers in
    let all : requests_in (length requests) (bytes_of_all requests) ≡ Ok (requests, []) = ap (requests_in (length requests)) (sym (append-nil (bytes_of_all requests))) ∙ requests_again requests [] allowed.each in
    let within : nat_lt max_frame (room_of_answers requests) ≡ false = le-ltb max_frame (room_of_answers requests) answers in
    bind-ok (head_in (bytes_of_requests requests)) (λ head. requests_in head.0 head.1 >>= λ found. error_if (not (eqb (length found.1) 0)) error.Surplus >>= λ ended. error_if (nat_lt max_frame (room_of_answers found.0)) error.AnswersTooLong >>= λ fitting. Ok found.0) (length requests, bytes_of_all requests)
    (head_again (length requests) (bytes_of_all requests) small (omega (arith, small, few_requests requests)))
    ∙ bind-ok (requests_in (length requests) (bytes_of_all requests)) (λ found. error_if (not (eqb (length found.1) 0)) error.Surplus >>= λ ended. error_if (nat_lt max_frame (room_of_answers found.0)) error.AnswersTooLong >>= λ fitting. Ok found.0) (requests, []) all
    ∙ ap (λ (b : Bool). error_if b error.AnswersTooLong >>= λ fitting. Ok requests) within

-- so bytes are the frame of one list of requests at most
pub frames_agree : (bytes : List ℕ) (requests others : List Request) → IsFrameOf bytes requests → IsFrameOf bytes others → requests ≡ others
frames_agree bytes requests others one other =
    ok_is requests others (sym (frame_again requests one.allowed) ∙ ap frame_in (sym one.spelled ∙ other.spelled) ∙ frame_again others other.allowed)

-- what is read of bytes that are a frame
pub read_of_frame : (bytes : List ℕ) (requests : List Request) → IsFrameOf bytes requests → frame_in bytes ≡ Ok requests
read_of_frame bytes requests is = ap frame_in is.spelled ∙ frame_again requests is.allowed

-- bytes that are a frame are refused for want of memory alone
pub refused_frame : (e : FrameError) (bytes : List ℕ) (requests : List Request) → Fails e (frame_in bytes) → IsFrameOf bytes requests → e ≡ error.NoMemory
refused_frame e bytes requests (inl lacks) is = lacks
refused_frame e bytes requests (inr refused) is = absurd (let found = sym refused ∙ read_of_frame bytes requests is in cc)
