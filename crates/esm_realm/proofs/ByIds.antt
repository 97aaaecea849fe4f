-- Records by id, beside the records in memory.
use Rattle.std.proofs.Common.{◌≡◌, ℕ, suc, zero, ◌<◌, List, [], ◌∷◌, length, map, Some, refl, ap, subst, sym, ◌∙◌}
use Rattle.std.specs.Prelude.{All, slice_get, slice_set}
use Rattle.std.proofs.lemmas.Option.{slice_get-get_or, slice_get_within}
use Rattle.std.proofs.Common.{get_or}
use Rattle.esm_base.specs.declared.module_id.ModuleId.{ModuleId}
use Rattle.esm_realm.specs.declared.record.Record.{Record}
use Rattle.esm_realm.specs.ById.{entries_by, entries_at}
use Rattle.esm_realm.specs.Sound.{RecordParts, IsSound, AreLoaded, parts_of, load_request, load_request_of}

pub length_parts : (rs : List Record) → length (map parts_of rs) ≡ length rs
length_parts [] = refl
length_parts (r ∷ rs) = ap suc (length_parts rs)

pub at_index : {A : Type 0} (xs : List A) (i : ℕ) (x : A) → i < length xs → x ≡ get_or xs i x → slice_get xs i ≡ Some x
at_index xs i x lt is = slice_get-get_or xs i x lt ∙ ap Some (sym is)

-- what holds of each, by its place
pub holds_at : {X : Type 0} (P : X → Type 0) (xs : List X) (k : ℕ) (x : X) → All P xs → slice_get xs k ≡ Some x → P x
holds_at P xs k x h e = let lt = slice_get_within xs k x e in let g = slice_get-get_or xs k x lt in let same : get_or xs k x ≡ x = cc in subst P same (h k x lt)

pub parts_at : (rs : List Record) (id : ℕ) (r : Record) → slice_get rs id ≡ Some r → slice_get (map parts_of rs) id ≡ Some (parts_of r)
parts_at [] id r e = cc
parts_at (p ∷ rs) zero r e = let same : p ≡ r = cc in ap (λ r. Some (parts_of r)) same
parts_at (p ∷ rs) (suc id) r e = parts_at rs id r e

-- a record of a sound realm has a place for each request
pub loaded_many : (rs : List Record) (id : ℕ) (r : Record) → IsSound (map parts_of rs) → slice_get rs id ≡ Some r → length r.loaded.items ≡ length (entries_at (map parts_of rs) id).requests
loaded_many rs id r s e =
    let a = holds_at (λ (p : RecordParts). AreLoaded (length (map parts_of rs)) p.entries p.loaded) (map parts_of rs) id (parts_of r) s.loaded (parts_at rs id r e) in
    a.as_many ∙ ap (λ o. length (entries_by o).requests) (sym (parts_at rs id r e))

pub set_loaded : (rs : List Record) (id i : ℕ) (t : ModuleId) (r q : Record) → slice_get rs id ≡ Some r → parts_of q ≡ load_request (parts_of r) i t → map parts_of (slice_set rs id q) ≡ load_request_of (map parts_of rs) id i t
set_loaded [] id i t r q e is = cc
set_loaded (p ∷ rs) zero i t r q e is = let same : p ≡ r = cc in ap (λ p. p ∷ map parts_of rs) (is ∙ ap (λ r. load_request (parts_of r) i t) (sym same))
set_loaded (p ∷ rs) (suc id) i t r q e is = ap (λ ps. parts_of p ∷ ps) (set_loaded rs id i t r q e is)
