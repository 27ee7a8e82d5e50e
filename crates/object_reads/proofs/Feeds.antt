-- A hasher that takes in one piece after another takes in both.
use Rattle.std.proofs.Common.{◌≡◌, ℕ, List, ◌++◌, append_assoc, ap, subst, ◌∙◌}
use Rattle.sha2.specs.Hashers.{Holds256}
use Rattle.sha2.specs.declared.Sha256.{Sha256}
use Rattle.object_reads.specs.Digests.{Feeds}

pub feeds_both : (front back whole : List ℕ) (old middle new : Sha256) → Feeds front old middle → Feeds back middle new → front ++ back ≡ whole → Feeds whole old new
feeds_both front back whole old middle new first second is = λ m h.
    subst (λ (l : List ℕ). Holds256 new l) (append_assoc m front back ∙ ap (λ (l : List ℕ). m ++ l) is) (second (m ++ front) (first m h))
