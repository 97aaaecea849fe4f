-- A segment, and each call for a body, has an outcome, over modules with numbers.
use Rattle.std.proofs.Common.{ℕ, Bool, refl}
use Rattle.std.specs.Prelude.{nat_eq}
use Rattle.esm_env.specs.Modules.{Modules}
use Rattle.esm_resolve.specs.SharedSet.{SharedSetAgrees, SharedSetEnds}
use Rattle.esm_rewriting.proofs.LinkedRead.{linked_read}
use Rattle.esm_rewriting.specs.Laws.{Importer, imports_by, itself, KeepsLinked, ImportsKeepModules, HasSegment, HaveOutcomes}
use Rattle.esm_rewriting.proofs.SomeAct.{BeginsSome}
use Rattle.esm_rewriting.proofs.SomeSegment.{some_segment}
use Rattle.esm_rewriting.proofs.SomeBody.{some_start, some_run, some_resume}

begins_some : SharedSetAgrees → SharedSetEnds → (linked : Modules ℕ → ℕ → Bool) (f : Importer) → ImportsKeepModules linked f → BeginsSome itself linked (KeepsLinked linked) (imports_by f)
begins_some a e linked f k = record {
  readable = λ o h. linked_read o.imports (linked o.imports) a e h;
  errors = λ o es h. h;
  makes = λ o h. h;
  settles = λ o p how g h. h;
  awaits = λ o v m q l h. h;
  some = λ o m text p r. let q = k o m text p r in ((f o m text p).0, ((f o m text p).1, (refl, (q.0, q.1))));
}

pub has_segment : SharedSetAgrees → SharedSetEnds → HasSegment
has_segment a e linked f k w m awaits r callers h = some_segment nat_eq itself linked (KeepsLinked linked) (imports_by f) (begins_some a e linked f k) awaits w m r callers h

pub have_outcomes : SharedSetAgrees → SharedSetEnds → HaveOutcomes
have_outcomes a e = record {
  start = λ linked f k w m done h home. some_start nat_eq itself linked (KeepsLinked linked) (imports_by f) (begins_some a e linked f k) w m done h home;
  run = λ linked f k w m h home q. let r = some_run nat_eq itself linked (KeepsLinked linked) (imports_by f) (begins_some a e linked f k) w m h home q in (r.0, (r.1.0, (r.1.1.0, r.1.1.1.0)));
  resume = λ linked f k w m t how h home q g. some_resume nat_eq itself linked (KeepsLinked linked) (imports_by f) (begins_some a e linked f k) w m t how h home q g;
}
