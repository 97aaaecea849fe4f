-- Records that are the same but for their statuses.
use Rattle.std.proofs.Common.{◌≡◌, Option, Some, None, refl, ap, sym, ◌∙◌}
use Rattle.std.specs.Prelude.{slice_get}
use Rattle.std.specs.Option.{option_map}
use Rattle.esm_realm.specs.Sound.{RecordParts}
use Rattle.esm_realm.specs.ById.{url_by, loaded_by, target_by, without_status}
use Rattle.esm_link.specs.Realm.{items_by}
use Rattle.esm_link.specs.Local.{RecordsAgree}

module _ {V : Type 0} (f : Option RecordParts → V) (plain : (r : RecordParts) → f (Some (without_status r)) ≡ f (Some r)) where
  without : (o : Option RecordParts) → f (option_map without_status o) ≡ f o
  without None = refl
  without (Some r) = plain r

  same_by : (o p : Option RecordParts) → option_map without_status o ≡ option_map without_status p → f o ≡ f p
  same_by o p e = sym (without o) ∙ ap f e ∙ without p

pub records_agree : RecordsAgree
records_agree trees others rs qs there w same = record {
  whole = w;
  url = λ m p. same_by url_by (λ r. refl) (slice_get qs m) (slice_get rs m) (same m p).1;
  tree = λ m p. ap items_by (same m p).0;
  target = λ m i p lt. same_by (λ o. target_by (slice_get (loaded_by o) i)) (λ r. refl) (slice_get qs m) (slice_get rs m) (same m p).1;
  named = λ m p. refl;
}
