-- The first piece of a put under a new name, and the bytes after it.
use Rattle.std.proofs.Common.{◌≡◌, ◌+◌, ◌∷◌, ℕ, List, Bool, Option, ap, drop, length, min, sym, take, ◌∙◌}
use Rattle.std.proofs.lemmas.List.{drop_min, take_min}
use Rattle.base.specs.declared.names.ObjectId.{ObjectId}
use Rattle.commands.specs.Puts.{first_byte, rest_transactions}
use Rattle.commands.specs.NamedOps.{naming_ops, naming_transactions}

-- the first piece of a put under a new name, and the bytes after it
pub named_piece : (has_table : Bool) (table : List ℕ) (n : ObjectId) (name : List ℕ) (offset : Option ℕ) (at : ℕ) (bytes first rest : List ℕ) → at ≡ first_byte offset
    → first ≡ take (min 64512 (length bytes)) bytes → rest ≡ drop (min 64512 (length bytes)) bytes
    → naming_transactions has_table table n name offset bytes ≡ naming_ops has_table table n name at first ∷ rest_transactions n (at + length first) rest
named_piece has_table table n name offset at bytes first rest begins is left =
    ap (λ (k : ℕ). naming_ops has_table table n name k (take 64512 bytes) ∷ rest_transactions n (k + length (take 64512 bytes)) (drop 64512 bytes)) (sym begins)
    ∙ ap (λ (p : List ℕ). naming_ops has_table table n name at p ∷ rest_transactions n (at + length p) (drop 64512 bytes)) (sym (is ∙ take_min 64512 bytes))
    ∙ ap (λ (l : List ℕ). naming_ops has_table table n name at first ∷ rest_transactions n (at + length first) l) (sym (left ∙ drop_min 64512 bytes))
