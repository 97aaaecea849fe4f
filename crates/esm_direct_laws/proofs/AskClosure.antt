-- A run over clean files asks for their closure alone: so each of its deliveries is of it, and in the end all of it is delivered.
use Rattle.std.proofs.Common.{◌≡◌, ◌⊎◌, inl, inr, suc, Bool, true, false, List, [], ◌∷◌, ◌++◌, Some, refl, ap, sym, subst, ◌∙◌, arith}
use Rattle.std.specs.Prelude.{All}
use Rattle.std.proofs.lemmas.List.Elements.{All-nil, All-cons}
use Rattle.esm_base.specs.Urls.{Url, has}
use Rattle.esm_tree.specs.Syntax.{Item}
use Rattle.esm_import_map.specs.ImportMap.{Maps}
use Rattle.esm_ast.specs.Deliveries.{Delivery, Files, AreOfFiles}
use Rattle.esm_loads.specs.Loading.{Loading, is_fetching}
use Rattle.esm_world.specs.World.{World, opening}
use Rattle.esm_world.specs.Turn.{Turn}
use Rattle.esm_world.specs.Run.{Runs, IsAllowed, Shown, StandardRun}
use Rattle.esm_world.specs.Laws.{urls_of}
use Rattle.esm_world.specs.Direct.{Closure, IsClean}
use Rattle.esm_world.proofs.Deliveries.{IsOpenAsk, open_ask, delivered_all}
use Rattle.esm_order_laws.specs.OrderFree.{HasEndedWithin}
use Rattle.esm_order_laws.proofs.OrderFree.{IsOver, is_over, Came, came}
use Rattle.esm_order_laws.proofs.RunPhase.{Reached, run_reaches, none_open, asked_is}
use Rattle.esm_order_laws.proofs.RunPhase.Reached.{waiting, over}
use Rattle.esm_direct_laws.specs.Asks.{AreOfClosure, AsksClosure}

one_more : (ds : List Delivery) (a v w : World) (d : Delivery) → Runs a ds v → IsAllowed v d → Turn v d.url d.outcome w → Runs a (ds ++ d ∷ []) w
one_more [] a v w d p allowed moved = (subst (λ x. IsAllowed x d) p allowed, w, subst (λ x. Turn x d.url d.outcome w) p moved, refl)
one_more (e ∷ ds) a v w d p allowed moved = (p.0, p.1, p.2, one_more ds p.1 v w d p.3 allowed moved)

of_more : (files : Files) (ds : List Delivery) (d : Delivery) → AreOfFiles files ds → files d.url ≡ Some d.outcome → AreOfFiles files (ds ++ d ∷ [])
of_more files [] d of is = (is, tt)
of_more files (e ∷ ds) d of is = (of.0, of_more files ds d of.1 is)

module _ (maps : Maps) (built : List Item → Bool) (files : Files) (entry : Url) (clean : IsClean maps built files entry) where
  -- an open ask is of the closure
  inside : (trace : Bool) (v : World) (u : Url) → IsOpenAsk v u → Reached maps built files entry clean trace v → Closure maps built files entry u
  inside trace v u ask (waiting h early e) = early.parts.early.0.within u (subst (λ (l : Loading). has l.asked u ≡ true) (ap (λ (w : World). w.loading) e) ask.asked)
  inside trace v u ask (over h ready j same) =
      absurd (none_open maps built files entry clean h ready u (subst (λ (l : Loading). has l.asked u ≡ true) same ask.asked) (subst (λ (l : Loading). is_fetching (l.entries u) ≡ true) same ask.fetching))

  abbrev Fits : Delivery → Type 0
  Fits d = Closure maps built files entry d.url → files d.url ≡ Some d.outcome

  abbrev Inside : Delivery → Type 0
  Inside d = Closure maps built files entry d.url

  -- what is delivered behind deliveries of the files
  behind : (trace : Bool) (ds more : List Delivery) (v w : World) → AreOfFiles files ds → Runs (opening maps built entry trace) ds v → Runs v more w → All Fits more → AreOfClosure maps built files entry more
  behind trace ds [] v w of p q each = record { inside = All-nil Inside; of_files = tt }
  behind trace ds (d ∷ more) v w of p q each =
      let ask = open_ask v d.url q.0.asked in
      let here = inside trace v d.url ask (run_reaches maps built files entry clean trace ds v of p ask.live) in
      let fits : Fits d = each 0 d (omega arith) in
      let is : files d.url ≡ Some d.outcome = fits here in
      let rest = behind trace (ds ++ d ∷ []) more q.1 w (of_more files ds d of is) (one_more ds (opening maps built entry trace) v q.1 d p q.0 q.2) q.3 (λ k a within. each (suc k) a (omega arith)) in
      record { inside = All-cons Inside d more here rest.inside; of_files = (is, rest.of_files) }

  -- where the run has ended, all of the closure was asked for, and nothing is asked for still
  all_fetched : (trace : Bool) (deliveries : List Delivery) (what : Shown) → StandardRun maps built entry trace deliveries what → HasEndedWithin what → AreOfFiles files deliveries
      → (u : Url) → Closure maps built files entry u → has (urls_of deliveries) u ≡ true
  all_fetched trace deliveries what run ended of u inside = by (delivered_all maps built entry trace deliveries what run u ended.within asked)
    where
      over_is : IsOver run.world
      over_is = is_over run.world run.line (subst HasEndedWithin run.shows ended)

      end : Came maps built files entry clean trace run.world
      end = came maps built files entry clean trace deliveries run.world of run.runs over_is

      asked : has what.asked u ≡ true
      asked =
          subst (λ (k : Shown). has k.asked u ≡ true) (sym run.shows)
          (subst (λ (l : Loading). has l.asked u ≡ true) (sym end.loading_is) (asked_is maps built files entry clean end.host end.ready u inside))

      none : what.asks ≡ []
      none = ap (λ (k : Shown). k.asks) run.shows ∙ over_is.asks_are

      by : (has what.asks u ≡ true) ⊎ (has (urls_of deliveries) u ≡ true) → has (urls_of deliveries) u ≡ true
      by (inl h) = let no : false ≡ true = subst (λ us. has us u ≡ true) none h in absurd cc
      by (inr h) = h

pub asks_closure : AsksClosure
asks_closure = record {
  only = λ maps built files entry trace deliveries w clean p each. behind maps built files entry clean trace [] deliveries (opening maps built entry trace) w tt refl p each;
  each = λ maps built files entry trace deliveries what clean. all_fetched maps built files entry clean trace deliveries what;
}
