-- What the proofs on bodies rely on, of an Importer.
use Rattle.std.proofs.Common.{◌≡◌, ℕ, Bool, true, List}
use Rattle.esm_resolve.specs.Graph.{Graph}
use Rattle.esm_resolve.specs.SharedSet.{SharedSetAgrees, SharedSetEnds}
use Rattle.esm_promise.specs.Outer.{Outer}
use Rattle.esm_env.specs.Modules.{Modules}
use Rattle.esm_rewriting.specs.State.{Importing}
use Rattle.esm_rewriting.specs.Fits.{AreLinked}
use Rattle.esm_body.specs.Importers.{HasLinked, ImportsAreLawful}
use Rattle.esm_rewriting.proofs.LinkedRead.{linked_read}
use Rattle.esm_rewriting.proofs.OneAct.{BeginsOne}
use Rattle.esm_rewriting.proofs.SomeAct.{BeginsSome}

module _ {I : Type 0} (modules : I → Modules ℕ) (linked : I → ℕ → Bool) (fits : Outer ℕ I → Type 0) (begins : Importing ℕ I) (law : ImportsAreLawful modules linked fits begins) where
  pub begins_some : SharedSetAgrees → SharedSetEnds → BeginsSome modules linked fits begins
  begins_some a e = record {
    readable = λ o h. linked_read (modules o.imports) (linked o.imports) a e (law.links o h);
    errors = law.errors;
    makes = law.makes;
    settles = law.settles;
    awaits = law.awaits;
    some = λ o m text p h. let r = law.some o m text p h in (r.0, (r.1.0, (r.1.1.0, (r.1.1.1.whole, r.1.1.1.keeps))));
  }

  -- the URL that the code gives of a linked module is the module's
  pub shows_urls : {C : Type 0} (seen : C → I) (graphs : C → Graph) (urls : C → ℕ → List ℕ)
      → ((c : C) → AreLinked (modules (seen c)) (linked (seen c)) → HasLinked (modules (seen c)) (linked (seen c)) (graphs c) (urls c))
      → (o : Outer ℕ I) (c : C) (m : ℕ) → fits (record o { imports = seen c }) → linked (seen c) m ≡ true → urls c m ≡ (modules (seen c)).url m
  shows_urls seen graphs urls has o c m f k = (has c (law.links (record o { imports = seen c }) f)).url m k

  pub begins_one : BeginsOne begins
  begins_one = record { one = λ {o} {x} {y} {m} {text} {p} {r} {s} a b. law.one o x y m text p r s a b }
