-- All direct runs of clean files show the same.
use Rattle.std.proofs.Common.{◌≡◌, Bool, List, [], ◌++◌, length, Option, Some, None, refl, ap, subst, sym, ◌∙◌, arith, append-nil}
use Rattle.esm_base.specs.Urls.{Text, Url, has, same_url}
use Rattle.esm_tree.specs.Syntax.{Item}
use Rattle.esm_import_map.specs.ImportMap.{Maps}
use Rattle.esm_ast.specs.Deliveries.{Files}
use Rattle.esm_realm.proofs.Weigh.{length_within}
use Rattle.esm_values.specs.Value.{Value}
use Rattle.esm_values.specs.Value.{Value as value}
use Rattle.esm_env.proofs.Named as env
use Rattle.esm_rewriting.specs.Acts.{Displays}
use Rattle.esm_world.specs.World.{World, world_over, modules_in, body_state}
use Rattle.esm_world.specs.LastLine.{Ending, Stopped, Uncaught, Done, Pending, IsLastLine}
use Rattle.esm_world.specs.Jobs.{Jobs}
use Rattle.esm_world.specs.Run.{Shown}
use Rattle.esm_world.specs.Direct.{AreClosure, ShowsDirect, gathered}
use Rattle.esm_world.specs.OnOrder.{OneDirectRun}
use Rattle.esm_world.proofs.StartsOnce.{Once, makes_first_calls}
use Rattle.esm_loads.specs.Host.{Host}
use Rattle.esm_order_laws.proofs.Itself.{itself}
use Rattle.esm_order_laws.proofs.Lists.{Alike, both, past, past_is}
use Rattle.esm_order_laws.proofs.Moved.{asked_so, asked_alike, asked_long}
use Rattle.esm_order_laws.proofs.Numbers.{are_named}
use Rattle.esm_order_laws.proofs.Calls.{Fine_world, world_seen}
use Rattle.esm_order_laws.proofs.Jobs.{jobs_moves, jobs_one}

-- no body has begun in a world in which nothing was evaluated
once_over : (h : Host) (trace : Bool) → Once (world_over h trace)
once_over h trace = record {
  distinct = tt;
  calm = λ live. makes_first_calls.opening (world_over h trace) (record { phases = λ x. refl; free = λ x. refl; undone = λ x. refl; stamps = refl }) (λ x. refl);
}

module _ (xs ys : List Url) (alike : Alike xs ys) (long : length ys ≡ length xs) where
  abbrev seen : World → World
  seen w = world_seen xs ys alike long w

  displays_moves : (w : World) → Fine_world xs ys alike long w → (v : Value Url) (text : Text) → Displays modules_in (body_state w) v text → Displays modules_in (body_state (seen w)) v text
  displays_moves w g value.Undefined text p = p
  displays_moves w g (value.Truth b) text p = p
  displays_moves w g (value.Text t) text p = p
  displays_moves w g (value.Func m i) text p = p
  displays_moves w g (value.Error e) text p = p
  displays_moves w g (value.Namespace m) text p =
      let named = are_named w.loading (asked_so xs ys alike long w.loading.asked) (asked_alike xs ys alike long w.loading g) (asked_long xs ys alike long w.loading g) in
      (p.0, ((env.follows_names itself same_url same_url).reads (modules_in w.loading) (modules_in (seen w).loading) named).keys m p.0 p.1, p.2, p.3)
  displays_moves w g (value.Promise q) text p = p

  line_moves : (w : World) → Fine_world xs ys alike long w → (e : Option Ending) (line : Text) → IsLastLine w e line → IsLastLine (seen w) e line
  line_moves w g None line p = p
  line_moves w g (Some (Stopped limit)) line p = p
  line_moves w g (Some (Uncaught v)) line p = (p.0, displays_moves w g v p.0 p.1, p.2)
  line_moves w g (Some Done) line p = p
  line_moves w g (Some Pending) line p = p

  shows_moves : (w : World) (what : Shown) → Fine_world xs ys alike long w → ShowsDirect w what → ShowsDirect (seen w) what
  shows_moves w what g s = record {
    ending = s.ending;
    ends = s.ends;
    log = s.log;
    events = s.events;
    status = s.status;
    last_line = line_moves w g (Some s.ending) what.last_line s.last_line;
  }

-- ---- the two lists of a closure

module _ (maps : Maps) (built : List Item → Bool) (files : Files) (entry : Url) where
  closures_alike : (xs ys : List Url) → AreClosure maps built files entry xs → AreClosure maps built files entry ys → Alike xs ys
  closures_alike xs ys c d u = both (has ys u) (has xs u) (λ h. c.each u (d.only u h)) (λ h. d.each u (c.only u h))

  closures_long : (xs ys : List Url) → AreClosure maps built files entry xs → AreClosure maps built files entry ys → length ys ≡ length xs
  closures_long xs ys c d =
      let a = length_within xs ys c.once (λ u h. d.each u (c.only u h)) in
      let b = length_within ys xs d.once (λ u h. c.each u (d.only u h)) in
      omega (arith, a, b)

  all_asked : (xs ys : List Url) (alike : Alike xs ys) (long : length ys ≡ length xs) → asked_so xs ys alike long xs ≡ ys
  all_asked xs ys alike long = ap (λ us. ys ++ us) (ap (past xs) (sym (append-nil xs)) ∙ past_is xs []) ∙ append-nil ys

  pub gathered_moves : (trace : Bool) (xs ys : List Url) (alike : Alike xs ys) (long : length ys ≡ length xs)
      → world_seen xs ys alike long (world_over (gathered maps built files entry xs) trace) ≡ world_over (gathered maps built files entry ys) trace
  gathered_moves trace xs ys alike long = ap (λ us. world_over (gathered maps built files entry us) trace) (all_asked xs ys alike long)

pub one_direct_run : OneDirectRun
one_direct_run maps built files entry trace xs ys one other what clean p q s =
    let alike = closures_alike maps built files entry xs ys p.closure q.closure in
    let long = closures_long maps built files entry xs ys p.closure q.closure in
    let r = jobs_moves xs ys alike long ([], sym (append-nil xs)) (once_over (gathered maps built files entry xs) trace) p.jobs in
    let moved = subst (λ w. Jobs w (world_seen xs ys alike long one)) (gathered_moves maps built files entry trace xs ys alike long) r.0 in
    subst (λ w. ShowsDirect w what) (jobs_one moved q.jobs) (shows_moves xs ys alike long one what r.1 s)
