-- A segment leaves the URL of its module.
use Rattle.std.proofs.Common.{◌≡◌, ℕ, nat_eq, Bool, true, List, [], ◌∙◌}
use Rattle.esm_resolve.specs.SharedSet.{SharedSetAgrees, SharedSetEnds}
use Rattle.esm_values.specs.Value.{Value, Namespace}
use Rattle.esm_promise.specs.Outer.{Outer}
use Rattle.esm_env.specs.Modules.{Modules}
use Rattle.esm_rewriting.specs.Rest.{Rest}
use Rattle.esm_rewriting.specs.State.{State, Importing}
use Rattle.esm_rewriting.specs.Segment.{Ended, Normal, Thrown, Awaiting, Stopped, Segment}
use Rattle.esm_rewriting.specs.Fits.{FitsRun, FitsEnd}
use Rattle.esm_body.specs.Importers.{ImportsAreLawful}
use Rattle.esm_rewriting.proofs.FitOutcomes.{segment_fits}
use Rattle.esm_body.proofs.Lawful.{begins_one}
use Rattle.esm_rewriting.proofs.LinkedRead.{linked_read}
use Rattle.esm_rewriting.proofs.SomeAct.{BeginsSome}

module _ {S : Type 0} (modules : S → Modules ℕ) (linked : S → ℕ → Bool) (fits : Outer ℕ S → Type 0) (begins : Importing ℕ S) (agrees : SharedSetAgrees) (ends : SharedSetEnds) (lawful : ImportsAreLawful modules linked fits begins) (m : ℕ) (u : List ℕ) where
  -- the module is linked, and has this URL
  pub record Has (o : Outer ℕ S) : Type 0 where
    pub whole : fits o
    pub home : linked o.imports m ≡ true
    pub url : (modules o.imports).url m ≡ u

  has_some : BeginsSome modules linked Has begins
  has_some = record {
    readable = λ o h. linked_read (modules o.imports) (linked o.imports) agrees ends (lawful.links o h.whole);
    errors = λ o es h. record { whole = lawful.errors o es h.whole; home = h.home; url = h.url };
    makes = λ o h. record { whole = lawful.makes o h.whole; home = h.home; url = h.url };
    settles = λ o p how k h. record { whole = lawful.settles o p how k h.whole; home = h.home; url = h.url };
    awaits = λ o v n k l h. record { whole = lawful.awaits o v n k l h.whole; home = h.home; url = h.url };
    some = λ o n text p h.
        let r = lawful.some o n text p h.whole in
        let k = r.1.1.1 in
        (r.0, (r.1.0, (r.1.1.0, (record { whole = k.whole; home = k.keeps (Namespace m) h.home; url = k.urls m h.home ∙ h.url }, k.keeps))));
  }

  at_end : (awaits : Bool) (w after : State ℕ S) (how : Ended ℕ) → FitsEnd modules linked Has w awaits how after → Has after.outer
  at_end awaits w after Normal h = h.fits.whole
  at_end awaits w after (Thrown v) h = h.0.fits.whole
  at_end awaits w after (Awaiting v rest) h = h.0.fits.whole
  at_end awaits w after (Stopped why) h = h.fits.whole

  pub url_stays : (awaits : Bool) (w after : State ℕ S) (rest : Rest (Value ℕ)) (how : Ended ℕ) → FitsRun modules linked fits w m awaits rest [] → (modules w.outer.imports).url m ≡ u
      → Segment nat_eq modules begins w m rest [] how after → (modules after.outer.imports).url m ≡ u
  url_stays awaits w after rest how f e p =
      (at_end awaits w after how
      (segment_fits nat_eq modules linked Has begins has_some (begins_one modules linked fits begins lawful) awaits w m rest [] how after (record {
        state = record { whole = record { whole = f.state.whole; home = f.home; url = e }; cells = f.state.cells; standing = f.state.standing };
        home = f.home;
        holds = f.holds;
        before = f.before;
      }) p)).url
