-- Steps that the worked examples share.
use Rattle.std.proofs.Common.{◌≡◌, ◌≢◌, true, false, ℕ, ◌+◌, List, [], ◌∷◌, Some, None, Option, Contains, arith, refl, ap, subst, sym, ◌∙◌}
use Rattle.std.specs.Prelude.{Ok, All, IsUtf8, IsAscii, cond, codes, ◌<◌}
use Rattle.std.proofs.lemmas.Str.{IsUtf8-from_ascii}
use Rattle.std.proofs.lemmas.Str.Ascii.{IsAscii-nil, IsAscii-cons}
use Rattle.esm_realm.proofs.Urls.{not_true, not_both, same_text, own_text}
use Rattle.std.specs.List.{AllByRecursion}
use Rattle.std.proofs.lemmas.List.Elements.{All-nil, All-from_recursion}
use Rattle.esm_base.specs.Urls.{Text, Url, same_url}
use Rattle.esm_tree.specs.Syntax as x
use Rattle.esm_tree.specs.Syntax.{Item, Stmt}
use Rattle.esm_ast.specs.Outcome.{OutcomeView}
use Rattle.esm_values.specs.Value.{Value, Undefined}
use Rattle.esm_values.specs.Value.{Text as text_value}
use Rattle.esm_values.specs.Plans.Rewritten.{Goes}
use Rattle.esm_values.specs.Plans.{Follows as follow}
use Rattle.esm_expr_eval.specs.Terms.{Terms as terms}
use Rattle.esm_expr_eval.specs.Terms.{Term as t}
use Rattle.esm_expr_eval.specs.Terms.Term.{Val}
use Rattle.esm_expr_eval.specs.Rewriting.{Rewrites, AreValues}
use Rattle.esm_loads.specs.UrlTable.{TableEntry, Module, put_at}
use Rattle.esm_loads.specs.Loading.{Loading}
use Rattle.esm_loads.specs.ImportCall.{BeginsImport}
use Rattle.esm_rewriting.specs.Rest.{Rest, more}
use Rattle.esm_rewriting.specs.Rest.Part.{Whole, Does}
use Rattle.esm_rewriting.specs.Rest.Use.{Drops}
use Rattle.esm_rewriting.specs.State.{State, take_steps, add_line}
use Rattle.esm_rewriting.specs.Acts.{over_scopes}
use Rattle.esm_rewriting.specs.BodyRewriting.{On, RewritesBody}
use Rattle.esm_rewriting.specs.Segment.{Active, Ended, Segment}
use Rattle.std.specs.Prelude.{unwrap_or}
use Rattle.esm_base.specs.declared.module_id.ModuleId.{ModuleId}
use Rattle.esm_resolve.specs.Graph.{Graph}
use Rattle.esm_resolve.specs.Resolution.{IsResolutionOf, Reaches, next_of, end_of}
use Rattle.esm_resolve.specs.declared.pair.Pair.{Pair}
use Rattle.esm_resolve.specs.declared.graph.Binding.{Binding}
use Rattle.esm_resolve.specs.declared.graph.Resolution.TheVariants.{Missing, One}
use Rattle.esm_eval.specs.Nodes.{EvaluatingAsync, Evaluated}
use Rattle.esm_eval.specs.BodyEnd.{IsReady}
use Rattle.esm_world.specs.World.{World, modules_in}
use Rattle.esm_world.specs.Layers.{evaluation}
use Rattle.esm_world.specs.Turn.{Tasks, Turn, fetched}

abbrev pub Here : Type 0
Here = State Url Loading

-- a segment in the world
abbrev pub Runs : Here → Url → Rest (Value Url) → List (Active Url) → Ended Url → Here → Type 0
Runs = Segment same_url modules_in BeginsImport

-- a module without requests, or with these targets
abbrev pub entry_of : List Item → List Url → TableEntry
entry_of items targets = Module (record { body = items; targets = targets })

-- a body of so many bytes has brought this entry
abbrev pub arrived : World → Url → ℕ → TableEntry → World
arrived w u bytes e = record w {
  loading = record w.loading { entries = put_at w.loading.entries u (Some e); bytes = w.loading.bytes + bytes };
}

pub turn_from : {w v after : World} {u : Url} {c : OutcomeView} → fetched w u c ≡ v → v.loading.stopped ≡ None → Tasks v after → Turn w u c after
turn_from {after = after} e live p = Turn.turn (ap (λ (w : World). w.loading.stopped) e ∙ live) (subst (λ w. Tasks w after) (sym e) p)

pub no_names : {xs : List Text} → xs ≡ [] → All IsUtf8 xs
no_names e = subst (λ xs. All IsUtf8 xs) (sym e) (All-nil IsUtf8)

abbrev pub AreAscii : List ℕ → Type 0
AreAscii [] = Unit {0}
AreAscii (b ∷ bs) = (b < 128) × AreAscii bs

ascii : (bs : List ℕ) → AreAscii bs → IsAscii bs
ascii [] h = IsAscii-nil
ascii (b ∷ bs) h = IsAscii-cons b bs h.0 (ascii bs h.1)

pub ascii_name : (bs : List ℕ) → AreAscii bs → IsUtf8 bs
ascii_name bs h = IsUtf8-from_ascii bs (ascii bs h)

pub utf8_x : IsUtf8 (codes "x")
utf8_x = ascii_name (codes "x") (omega arith, tt)

pub utf8_d : IsUtf8 (codes "d")
utf8_d = ascii_name (codes "d") (omega arith, tt)

pub utf8_bump : IsUtf8 (codes "bump")
utf8_bump = ascii_name (codes "bump") (omega arith, (omega arith, (omega arith, (omega arith, tt))))

pub some_names : {xs ys : List Text} → xs ≡ ys → AllByRecursion IsUtf8 ys → All IsUtf8 xs
some_names {ys = ys} e h = subst (λ xs. All IsUtf8 xs) (sym e) (All-from_recursion IsUtf8 ys h)

abbrev pub printing : List ℕ → Stmt
printing text = x.Expression (x.Print (x.more (x.Text text) x.none))

-- `print("TEXT");` is a step, another one, and a line
pub prints_text : {w mid mid2 late after : Here} {m : Url} {text : List ℕ} {rest : Rest (Value Url)} {callers : List (Active Url)} {how : Ended Url}
    → take_steps w 1 ≡ (Ok tt, mid) → take_steps mid 1 ≡ (Ok tt, mid2) → add_line mid2 text ≡ (Ok tt, late)
    → Runs late m rest callers how after → Runs w m (more (Whole (printing text)) rest) callers how after
prints_text {w} {mid} {mid2} {late} {m = m} {text = text} {rest = rest} e f g p =
    Segment.goes (On (Goes (more (Does Drops (t.Print (terms.more (Val (text_value text)) terms.none))) rest)))
    (RewritesBody.begins_at (follow.asks tt (ap (over_scopes (record { scopes = []; state = w })) (sym e)) follow.ends)) refl
    (Segment.goes (On (Goes (more (Does Drops (Val Undefined)) rest)))
    (RewritesBody.does (Rewrites.print (AreValues.cons AreValues.nil)
    (follow.asks tt (ap (over_scopes (record { scopes = []; state = mid })) (sym f))
    (follow.asks tt (text ∷ [], (text, [], refl, refl, refl), ap (over_scopes (record { scopes = []; state = mid2 })) (sym g)) follow.ends)))) refl
    (Segment.goes (On (Goes rest)) RewritesBody.drops refl p))

pub still_async : EvaluatingAsync ≢ Evaluated
still_async e = cc

-- a module that is evaluated isn't ready
pub not_ready : {w : World} {u : Url} → (w.nodes u).phase ≡ Evaluated → IsReady evaluation w u → ⊥
not_ready e (IsReady.ready s p b f r) = still_async (sym p ∙ e)

-- ---- tables by URL

pub put_other : {A : Type 0} (table : Url → A) (u : Url) (a : A) (x : Url) → same_url u x ≡ false → put_at table u a x ≡ table x
put_other table u a x e = ap (λ b. cond b a (table x)) e

pub other_url : (x u : Url) → same_url x u ≡ false → same_url u x ≡ false
other_url x u k = not_true (same_url u x) (λ h. not_both (same_url x u) (subst (λ z. same_url x z ≡ true) (sym (same_text u x h)) (own_text x)) k)

-- ---- exports of a module itself

no_member : {A : Type 0} (x : A) → Contains [] x → ⊥
no_member x c = omega (arith, c.1)

-- a pair that leads nowhere on
only_itself : (g : Graph) (from : Pair) → next_of g from ≡ [] → {p : Pair} → Reaches g from p → p ≡ from
only_itself g from n Reaches.itself = refl
only_itself g from n (Reaches.onward {p = p} {q = q} r c) =
    absurd (no_member q (subst (λ ps. Contains ps q) (ap (next_of g) (only_itself g from n r) ∙ n) c))

same_some : {A : Type 0} {a b : A} → ◌≡◌ {A = Option A} (Some a) (Some b) → a ≡ b
same_some {a = a} e = ap (λ o. unwrap_or o a) e

pub own_export : (g : Graph) (from : Pair) (id : ModuleId) (b : Binding) → next_of g from ≡ [] → end_of g from ≡ Some (id, b)
    → IsResolutionOf g from (One id b)
own_export g from id b n h = ((from, Reaches.itself, h), λ e l. same_some (sym l.2 ∙ ap (end_of g) (only_itself g from n l.1) ∙ h))

pub no_export_of : (g : Graph) (from : Pair) → next_of g from ≡ [] → end_of g from ≡ None → IsResolutionOf g from Missing
no_export_of g from n h e l = let k = sym (ap (end_of g) (only_itself g from n l.1) ∙ h) ∙ l.2 in cc
