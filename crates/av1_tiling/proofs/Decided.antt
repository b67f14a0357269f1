-- Loops that test each entry of a list, and each sample inside a plane.
use Rattle.std.proofs.Common.{◌≡◌, ℕ, ◌+◌, ◌*◌, ◌<◌, ◌≤◌, ℤ, pos, inl, inr, List, All, length, map, take, drop, get_or, sym, subst, ◌∙◌, ap, arith}
use Rattle.std.proofs.lemmas.Bool.{cases_lt}
use Rattle.std.proofs.lemmas.List.{take_all, get_or-map, length-map, take-map, drop-map, length-take, length-take-le, length-drop}
use Rattle.std.proofs.lemmas.List.Elements.{All-more, All-from_get_or}
use Rattle.av1_plane.specs.declared.plane.PlaneConfig.{PlaneConfig}
use Rattle.av1_plane.specs.Layout.{at}
use Rattle.av1_plane.proofs.Views.{get_or-row}
use Rattle.av1_plane.proofs.Places.{row_end_bound}

-- one more entry passes
pub one_more : {X : Type 0} (P : X → Type 0) (xs : List X) (i : ℕ) (x : X) → i < length xs → x ≡ get_or xs i x → All P (take i xs) → P x → All P (take (i + 1) xs)
one_more P xs i x below is before passes = All-more P xs i x below before (subst P is passes)

-- an entry that fails
pub one_fails : {X : Type 0} (P : X → Type 0) (xs : List X) (i : ℕ) (x : X) → i < length xs → x ≡ get_or xs i x → ¬ P x → ¬ All P xs
one_fails P xs i x below is fails all = fails (subst P (sym is) (all i x below))

-- all entries have passed
pub all_done : {X : Type 0} (P : X → Type 0) (xs : List X) (i : ℕ) → length xs ≤ i → All P (take i xs) → All P xs
all_done P xs i done before = subst (All P) (take_all i xs done) before

-- what holds of each number holds of each sample's number
pub of_numbers : {X : Type 0} (number : X → ℤ) (P : ℤ → Type 0) (xs : List X) → All P (map number xs) → All (λ x. P (number x)) xs
of_numbers number P xs all k d below =
    subst P (get_or-map number xs k d (number d) below) (all k (number d) (rw length-map below))

-- the numbers of a run of samples
run_numbers : {X : Type 0} (number : X → ℤ) (samples : List X) (first width : ℕ) → map number (take width (drop first samples)) ≡ take width (drop first (map number samples))
run_numbers number samples first width =
    sym (take-map number width (drop first samples)) ∙ ap (take width) (sym (drop-map number first samples))

-- sample x of a run that holds a property
pub run_has : {X : Type 0} (number : X → ℤ) (P : ℤ → Type 0) (samples : List X) (first width : ℕ) → first + width ≤ length samples
    → All P (map number (take width (drop first samples))) → (x : ℕ) → x < width → P (get_or (map number samples) (first + x) (pos 0))
run_has number P samples first width inside all x below =
    let numbers = map number samples in
    let long : length (take width (drop first numbers)) ≡ width = length-take-le width (drop first numbers) (rw (length-drop, length-map) (omega arith)) in
    let whole : All P (take width (drop first numbers)) = subst (All P) (run_numbers number samples first width) all in
    subst P (get_or-row width first numbers x (pos 0) below) (whole x (pos 0) (omega arith))

-- a run of samples, each of which has a property
pub has_run : {X : Type 0} (number : X → ℤ) (P : ℤ → Type 0) (samples : List X) (first width : ℕ)
    → ((x : ℕ) → x < width → P (get_or (map number samples) (first + x) (pos 0))) → All P (map number (take width (drop first samples)))
has_run number P samples first width each =
    let numbers = map number samples in
    let run = take width (drop first numbers) in
    let short = length-take width (drop first numbers) in
    subst (All P) (sym (run_numbers number samples first width)) (All-from_get_or P run (pos 0)
    (λ i below. subst P (sym (get_or-row width first numbers i (pos 0) (omega (arith, short)))) (each i (omega (arith, short)))))

-- the first n rows of a plane have a property
abbrev pub HaveRows : (ℤ → Type 0) → List ℤ → PlaneConfig → ℕ → Type 0
HaveRows P numbers cfg n = (x y : ℕ) → x < cfg.width → y < n → P (at numbers cfg.stride (cfg.xorigin + x) (cfg.yorigin + y))

-- one more row has
pub row_more : (P : ℤ → Type 0) (numbers : List ℤ) (cfg : PlaneConfig) (n : ℕ) → HaveRows P numbers cfg n
    → ((x : ℕ) → x < cfg.width → P (get_or numbers ((cfg.yorigin + n) * cfg.stride + cfg.xorigin + x) (pos 0))) → HaveRows P numbers cfg (n + 1)
row_more P numbers cfg n before here x y hx hy = elim (cases_lt y n) [
  | inl above ↦ before x y hx above
  | inr past ↦
      let last : n ≡ y = omega arith in
      subst (λ (i : ℕ). P (get_or numbers ((cfg.yorigin + i) * cfg.stride + (cfg.xorigin + x)) (pos 0))) last
      (subst (λ (i : ℕ). P (get_or numbers i (pos 0))) (omega arith) (here x hx))
]

-- one of the rows
pub row_of : (P : ℤ → Type 0) (numbers : List ℤ) (cfg : PlaneConfig) (n y : ℕ) → HaveRows P numbers cfg n → y < n
    → (x : ℕ) → x < cfg.width → P (get_or numbers ((cfg.yorigin + y) * cfg.stride + cfg.xorigin + x) (pos 0))
row_of P numbers cfg n y all below x hx = subst (λ (i : ℕ). P (get_or numbers i (pos 0))) (omega arith) (all x y hx below)

-- a row of a plane ends inside the samples
pub row_inside : (cfg : PlaneConfig) (y n : ℕ) → cfg.xorigin + cfg.width ≤ cfg.stride → cfg.yorigin + cfg.height ≤ cfg.alloc_height → y < cfg.height → n ≡ cfg.stride * cfg.alloc_height
    → (cfg.yorigin + y) * cfg.stride + cfg.xorigin + cfg.width ≤ n
row_inside cfg y n wide high below stored =
    let ends : (cfg.yorigin + y) * cfg.stride + cfg.stride ≤ n = row_end_bound (cfg.yorigin + y) cfg.stride cfg.alloc_height n (omega arith) stored in
    omega arith
