use Rattle.std.proofs.Common.{ap, arith, inl, inr}
use Rattle.std.proofs.lemmas.Bool.{false_from_ne_true}
use Rattle.base.specs.declared.pointer.Pointer.{Pointer}
use Rattle.object_maps_clients.proofs.forms.a_pointer_without_an_address_is_all_zeros.Goals as goal

pub returns : goal.returns
returns c = false_from_ne_true c.have_form.result (λ accepted. elim (c.have_form.ensures.0 accepted 83 (omega arith)) [
  | inl none ↦ omega (arith, c.requires.birth, ap (λ (p : Pointer). p.birth) none)
  | inr named ↦ named c.requires.address
])
