-- A segment, and a call for a body, have one outcome.
use Rattle.std.proofs.Common.{◌≡◌, ℕ, Bool, List, [], Option, Some, refl, ap, subst, sym, ◌∙◌}
use Rattle.std.specs.Prelude.{Result, Ok, Err, unwrap_or}
use Rattle.esm_base.specs.declared.limits.Limit.{Limit}
use Rattle.esm_values.specs.Value.{Value}
use Rattle.esm_values.specs.Ran.{Ran}
use Rattle.esm_promise.specs.Promises.{Settled}
use Rattle.esm_env.specs.Modules.{Modules}
use Rattle.esm_rewriting.specs.Rest.{Rest, fill_rest}
use Rattle.esm_rewriting.specs.State.{State, Importing}
use Rattle.esm_rewriting.specs.Acts.{Inner}
use Rattle.esm_rewriting.specs.BodyRewriting.{RewrittenBody}
use Rattle.esm_rewriting.specs.Segment.{Active, Ended, Next, Goes, Over, Segment, RewritesOutermost, next_by}
use Rattle.esm_rewriting.specs.Segment.Segment.{ends, returns, goes, over}
use Rattle.esm_rewriting.specs.Bodies.{StartsBody, RunsBody, ResumesBody, Taken, whole_body, segment_end, body_end, url_in, without_standing, given_by}
use Rattle.esm_rewriting.proofs.OneAct.{BeginsOne}
use Rattle.esm_rewriting.proofs.OneMove.{moves_one}

module _ {N I : Type 0} (same : N → N → Bool) (modules : I → Modules N) (begins : Importing N I) (one : BeginsOne begins) where
  abbrev Segment' : State N I → N → Rest (Value N) → List (Active N) → Ended N → State N I → Type 0
  Segment' = Segment same modules begins

  at_one : {m : N} {w x y : State N I} {r : Rest (Value N)} {a b : RewrittenBody (Value N) Limit} → RewritesOutermost same modules begins m w r a x → RewritesOutermost same modules begins m w r b y → (b ≡ a) × (y ≡ x)
  at_one {m} p q = let k = moves_one same modules begins one m p q in (k.0, ap (λ (i : Inner N I). i.state) k.1)

  -- what follows is told by the rewriting
  follows_alike : (m : N) (callers : List (Active N)) {a b : RewrittenBody (Value N) Limit} {x y : State N I} {s t : Next N I} → (b ≡ a) × (y ≡ x) → next_by same modules begins m callers a x ≡ Some s → next_by same modules begins m callers b y ≡ Some t → t ≡ s
  follows_alike m callers {a} {b} {x} {y} k p q = let e : next_by same modules begins m callers b y ≡ next_by same modules begins m callers a x = (λ i. next_by same modules begins m callers (k.0 i) (k.1 i)) in cc

  abbrev GoesOn : Next N I → Ended N → State N I → Type 0
  GoesOn (Goes m s callers w) how after = Segment' w m s callers how after
  GoesOn (Over how' w) how after = (how ≡ how') × (after ≡ w)

  runs_on : (how : Ended N) (after : State N I) {s t : Next N I} → t ≡ s → GoesOn t how after → GoesOn s how after
  runs_on how after e h = subst (λ s. GoesOn s how after) e h

  pub runs_one : {w x y : State N I} {m : N} {r : Rest (Value N)} {callers : List (Active N)} {a b : Ended N} → Segment' w m r callers a x → Segment' w m r callers b y → (b ≡ a) × (y ≡ x)
  runs_one ends ends = (refl, refl)
  runs_one ends (goes move v e q) = elim v [ ]
  runs_one ends (over move v e) = elim v [ ]
  runs_one (returns p) (returns q) = runs_one p q
  runs_one (returns p) (goes move v e q) = elim v [ ]
  runs_one (returns p) (over move v e) = elim v [ ]
  runs_one (goes move v e p) ends = elim v [ ]
  runs_one (goes move v e p) (returns q) = elim v [ ]
  runs_one {y = y} {m = m} {callers = cs} {b = b} (goes {late = late} {n = n} {s = s} {others = others} move v e p) (goes {late = late'} {n = n'} {s = s'} {others = others'} move' v' e' q) =
      let k : Goes n' s' others' late' ≡ Goes n s others late = follows_alike m cs (at_one v v') e e' in
      runs_one p (runs_on b y k q)
  runs_one {y = y} {m = m} {callers = cs} {b = b} (goes {late = late} {n = n} {s = s} {others = others} move v e p) (over move' v' e') =
      let k : Over b y ≡ Goes n s others late = follows_alike m cs (at_one v v') e e' in absurd cc
  runs_one (over move v e) ends = elim v [ ]
  runs_one (over move v e) (returns q) = elim v [ ]
  runs_one {x = x} {m = m} {callers = cs} {a = a} (over move v e) (goes {late = late} {n = n} {s = s} {others = others} move' v' e' q) =
      let k : Goes n s others late ≡ Over a x = follows_alike m cs (at_one v v') e e' in absurd cc
  runs_one {x = x} {y = y} {m = m} {callers = cs} {a = a} {b = b} (over move v e) (over move' v' e') =
      let k : Over b y ≡ Over a x = follows_alike m cs (at_one v v') e e' in (cc, cc)

  apart : {limit : Limit} → ◌≡◌ {A = Result (Unit {0}) Limit} (Ok tt) (Err limit) → ⊥
  apart e = cc

  same_limit : {a b : Limit} → ◌≡◌ {A = Result (Unit {0}) Limit} (Err a) (Err b) → a ≡ b
  same_limit e = cc

  pub starts_body_one : {w x y : State N I} {m : N} {done : ℕ} {r s : Result (Unit {0}) Limit} → StartsBody same modules begins w m done r x → StartsBody same modules begins w m done s y → (s ≡ r) × (y ≡ x)
  starts_body_one (StartsBody.stopped h) (StartsBody.stopped k) = let e = sym k ∙ h in (ap (λ t. t.0) e, ap (λ t. t.1) e)
  starts_body_one (StartsBody.stopped h) (StartsBody.segment k q f) = absurd (apart (ap (λ t. t.0) (sym k ∙ h)))
  starts_body_one (StartsBody.segment h p e) (StartsBody.stopped k) = absurd (apart (ap (λ t. t.0) (sym h ∙ k)))
  starts_body_one {w = w} {y = y} {m = m} {done = done} {s = s} (StartsBody.segment {mid = mid} h p e) (StartsBody.segment {mid = mid'} {late = late} {how = how} h' q f) =
      let same_mid : mid' ≡ mid = ap (λ t. t.1) (sym h' ∙ h) in
      let k = runs_one p (subst (λ v. Segment' v m (whole_body same modules begins w m) [] how late) same_mid q) in
      let t = sym f ∙ (λ i. segment_end (url_in same modules begins w) m done (k.0 i) (k.1 i)) ∙ e in
      (ap (λ t. t.0) t, ap (λ t. t.1) t)

  pub runs_body_one : {w x y : State N I} {m : N} {r s : Result (Ran (Value N)) Limit} → RunsBody same modules begins w m r x → RunsBody same modules begins w m s y → (s ≡ r) × (y ≡ x)
  runs_body_one (RunsBody.stopped h) (RunsBody.stopped k) = let e = sym k ∙ h in (ap Err (same_limit (ap (λ t. t.0) e)), ap (λ t. t.1) e)
  runs_body_one (RunsBody.stopped h) (RunsBody.segment k q f) = absurd (apart (ap (λ t. t.0) (sym k ∙ h)))
  runs_body_one (RunsBody.segment h p e) (RunsBody.stopped k) = absurd (apart (ap (λ t. t.0) (sym h ∙ k)))
  runs_body_one {w = w} {x = x} {y = y} {m = m} {r = r} {s = s} (RunsBody.segment {mid = mid} h p e) (RunsBody.segment {mid = mid'} {late = late} {how = how} h' q f) =
      let same_mid : mid' ≡ mid = ap (λ t. t.1) (sym h' ∙ h) in
      let k = runs_one p (subst (λ v. Segment' v m (whole_body same modules begins w m) [] how late) same_mid q) in
      let u = sym f ∙ (λ i. body_end (url_in same modules begins w) m (k.0 i) (k.1 i)) ∙ e in
      let t : (s, y) ≡ (r, x) = ap (λ o. unwrap_or o (s, y)) u in
      (ap (λ t. t.0) t, ap (λ t. t.1) t)

  abbrev resumed : State N I → N → Settled (Value N) → Taken N → Ended N → State N I → Type 0
  resumed w m how t ended late = Segment' (without_standing same modules begins w t.others) m (fill_rest (given_by how) t.standing.rest) [] ended late

  pub resumes_body_one : {w x y : State N I} {m : N} {how : Settled (Value N)} {r s : Result (Unit {0}) Limit} → ResumesBody same modules begins w m how r x → ResumesBody same modules begins w m how s y → (s ≡ r) × (y ≡ x)
  resumes_body_one {w} {m = m} {how = how} p q =
      let took : q.taken ≡ p.taken = some_same p.stands q.stands in
      let k = runs_one p.runs (subst (λ t. resumed w m how t q.ended q.late) took q.runs) in
      let t = sym q.ends ∙ (λ i. segment_end (url_in same modules begins w) m (took i).standing.done (k.0 i) (k.1 i)) ∙ p.ends in
      (ap (λ t. t.0) t, ap (λ t. t.1) t)
    where
      some_same : {A : Type 0} {o : Option A} {a b : A} → o ≡ Some a → o ≡ Some b → b ≡ a
      some_same p q = cc
