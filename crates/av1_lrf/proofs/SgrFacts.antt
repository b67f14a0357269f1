-- The self-guided filter on a region.
use Rattle.std.proofs.Common.{◌≡◌, ℕ, ℤ, List, [], ◌++◌, drop, length, map, sym, subst, ◌∙◌, ap, arith}
use Rattle.std.proofs.Math.ListN.{drop_of_length-le}
use Rattle.std.proofs.lemmas.List.{append-nil, with_items_is}
use Rattle.av1_plane.specs.declared.region_mut.PlaneRegionMut.{PlaneRegionMut}
use Rattle.av1_plane.specs.Region.{with_run, samples_under, numbers_under}
use Rattle.av1_lrf.specs.declared.guided.Plan.{Plan}
use Rattle.av1_lrf.specs.Wiener.{IsDepth}
use Rattle.av1_lrf.specs.Runs.{HasArea}
use Rattle.av1_lrf.specs.Guided.{Table}
use Rattle.av1_lrf.specs.Guides.{IsGuidePass, IsMixOf, IsPlanOf, HasTable}

-- a plan for a table is a plan for equal numbers
pub plan_is : (bd set : ℕ) (xqd : List ℤ) (f : Table) (p : Plan) (step w h w' h' : ℕ) (cells squares cells' squares' : List ℕ) → w ≡ w' → h ≡ h' → cells ≡ cells' → squares ≡ squares' → IsDepth bd → IsGuidePass bd set 2 p.two → IsGuidePass bd set 1 p.one → IsMixOf bd set xqd p.mix → HasTable bd f step w h cells squares → IsPlanOf bd set xqd f p step w' h' cells' squares'
plan_is bd set xqd f p step w h w' h' cells squares cells' squares' ew eh ec eq d two one mix t =
    subst (λ (a : ℕ). IsPlanOf bd set xqd f p step a h' cells' squares') ew (subst (λ (b : ℕ). IsPlanOf bd set xqd f p step w b cells' squares') eh
    (subst (λ (a : List ℕ). IsPlanOf bd set xqd f p step w h a squares') ec (subst (λ (a : List ℕ). IsPlanOf bd set xqd f p step w h cells a) eq
    (record { depth = d; two = two; one = one; mix = mix; sums = t.sums; square_sums = t.square_sums; below = t.below }))))

-- a stripe with equal sides and equal values is written alike
pub stripe_is : (o o' s s' w w' h h' : ℕ) (f g : ℕ → ℕ → ℤ) (a a' b b' : List ℤ) → o ≡ o' → s ≡ s' → w ≡ w' → h ≡ h' → a ≡ a' → b ≡ b' → ((x y : ℕ) → f x y ≡ g x y) → HasArea o s 0 w 0 h f a b → HasArea o' s' 0 w' 0 h' g a' b'
stripe_is o o' s s' w w' h h' f g a a' b b' eo es ew eh ea eb e area =
    subst (λ (k : ℕ). HasArea k s' 0 w' 0 h' g a' b') eo (subst (λ (k : ℕ). HasArea o k 0 w' 0 h' g a' b') es (subst (λ (k : ℕ). HasArea o s 0 k 0 h' g a' b') ew (subst (λ (k : ℕ). HasArea o s 0 w 0 k g a' b') eh (subst (λ (k : List ℤ). HasArea o s 0 w 0 h g k b') ea (subst (λ (k : List ℤ). HasArea o s 0 w 0 h g a k) eb
    (record { on = λ x y lx hx ly hy. area.on x y lx hx ly hy ∙ e x y; off = area.off; long = area.long }))))))

-- a region all of whose plane was written has the written samples
pub whole_run : {X : Type 0} → (f : X → ℤ) (r : PlaneRegionMut X) (made : List X) → length made ≡ length (samples_under r) → numbers_under f (with_run r 0 made) ≡ map f made
whole_run f r made e =
    let items = samples_under r in
    let none : drop (length made) items ≡ [] = drop_of_length-le items (omega arith) in
    let same : made ++ drop (length made) items ≡ made = ap (λ ys. made ++ ys) none ∙ append-nil made in
    let size : length (made ++ drop (length made) items) ≡ length items = ap length same ∙ e in
    ap (map f) (with_items_is r.plane.now.samples _ (size ∙ sym r.plane.now.samples.ok.0) ∙ same)
