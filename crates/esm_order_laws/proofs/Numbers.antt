-- Modules that were asked for in another order have other numbers, and are the same by their URLs.
use Rattle.std.proofs.Common.{◌≡◌, ℕ, List, length, refl, ap, sym, ◌∙◌}
use Rattle.esm_base.specs.Urls.{Url}
use Rattle.esm_ast.specs.Entries.{place_of, entries_of}
use Rattle.esm_resolve.specs.Graph.{IsReached}
use Rattle.esm_env.specs.Modules.{Modules, graph}
use Rattle.esm_env.specs.Naming.{AreNamed}
use Rattle.esm_loads.specs.LoadsView.{url_at}
use Rattle.esm_loads.specs.Loading.{Loading, targets, body}
use Rattle.esm_world.specs.World.{modules_in}
use Rattle.esm_order_laws.proofs.Itself.{itself}
use Rattle.esm_order_laws.proofs.Lists.{Alike, number, number_is, url_is, apart}

module _ (l : Loading) (vs : List Url) (alike : Alike l.asked vs) (long : length vs ≡ length l.asked) where
  abbrev us : List Url
  us = l.asked

  abbrev g : Modules Url
  g = modules_in l

  abbrev h : Modules Url
  h = modules_in (record l { asked = vs })

  abbrev num : ℕ → ℕ
  num n = number us vs alike long n

  -- what is reached is the place of a URL
  reached : (m : Url) {x : ℕ} → IsReached (graph g) (g.number m) x → (v : Url) × (x ≡ place_of us v)
  reached m IsReached.itself = (m, refl)
  reached m (IsReached.by_name {x = x} {e = e} r c) = (g.target (g.named x) e.request, refl)
  reached m (IsReached.by_star {x = x} {r = s} r c) = (g.target (g.named x) s, refl)

  at_number : (m : Url) {x : ℕ} → IsReached (graph g) (g.number m) x → url_at vs (num x) ≡ url_at us x
  at_number m r =
      let v = reached m r in
      ap (λ n. url_at vs (num n)) v.1 ∙ ap (url_at vs) (number_is us vs alike long v.0) ∙ url_is us vs alike long v.0 ∙ sym (ap (url_at us) v.1)

  target_is : (m : Url) {x : ℕ} → IsReached (graph g) (g.number m) x → (i : ℕ) → (graph h).target (num x) i ≡ num ((graph g).target x i)
  target_is m {x} r i =
      ap (λ u. place_of vs (url_at (targets l u) i)) (at_number m r) ∙ sym (number_is us vs alike long (url_at (targets l (url_at us x)) i))

  apart_is : (m : Url) {x y : ℕ} → IsReached (graph g) (g.number m) x → IsReached (graph g) (g.number m) y → num x ≡ num y → x ≡ y
  apart_is m r s e =
      let v = reached m r in
      let w = reached m s in
      let same = sym (ap num v.1 ∙ number_is us vs alike long v.0) ∙ e ∙ ap num w.1 ∙ number_is us vs alike long w.0 in
      v.1 ∙ apart us vs alike long v.0 w.0 same ∙ sym w.1

  pub are_named : AreNamed itself g h
  are_named = record {
    url = λ m. refl;
    tree = λ m. refl;
    target = λ m i below. refl;
    number = num;
    numbers = λ m. number_is us vs alike long m;
    renumbers = λ m. record {
      entries = λ x r. ap (λ u. entries_of (body l u)) (at_number m r);
      by_name = λ x e r c. target_is m r e.request;
      by_star = λ x star r c. target_is m r star;
      apart = λ x y r s e. apart_is m r s e;
    };
    named = λ m x r. at_number m r;
  }
