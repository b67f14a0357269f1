-- Slots that are refreshed one by one.
use Rattle.std.proofs.Common.{sym, ap, subst, ◌∙◌, ℕ, ◌+◌, ◌<◌, Bool, true, false, ◌≡◌, List, [], ◌∷◌, ◌++◌, length, take, map, if◌then◌else◌, slice_index_or, arith}
use Rattle.std.specs.List.{enumerate_from}
use Rattle.std.proofs.lemmas.List.{take_more, map-append, length-map, length-take-le, get_or-map}
use Rattle.std.proofs.lemmas.List.FromFn.{length-enumerate_from}
use Rattle.av1_frame.specs.RecBuffer.{refreshed_slots, is_refreshed}

-- an element at the end has the last index
enumerate_more : {E : Type 0} (n k : ℕ) (xs : List E) (x : E) → n + length xs ≡ k → enumerate_from n (xs ++ x ∷ []) ≡ enumerate_from n xs ++ (k, x) ∷ []
enumerate_more n k [] x e = let last : n ≡ k = omega (arith, e) in ap (λ index. (index, x) ∷ []) last
enumerate_more n k (y ∷ xs) x e = ap (λ ys. (n, y) ∷ ys) (enumerate_more (n + 1) k xs x (omega (arith, e)))

-- as many slots as before
pub length_refreshed : {E : Type 0} (flags : ℕ) (new : E) (slots : List E) → length (refreshed_slots flags new slots) ≡ length slots
length_refreshed {E} flags new slots =
    let choose : ℕ × E → E = λ old. if is_refreshed flags old.0 then new else old.1 in
    length-map (enumerate_from 0 slots) choose ∙ length-enumerate_from 0 slots

-- a new entry where the bit is set, and an old one where it isn't
pub new_chosen : {E : Type 0} (set : Bool) (new old slot : E) → set ≡ true → slot ≡ new → slot ≡ (if set then new else old)
new_chosen set new old slot is_set e = e ∙ ap (λ b. if b then new else old) (sym is_set)

pub old_chosen : {E : Type 0} (set : Bool) (new old slot : E) → set ≡ false → slot ≡ old → slot ≡ (if set then new else old)
old_chosen set new old slot is_clear e = e ∙ ap (λ b. if b then new else old) (sym is_clear)

-- one slot more
pub refreshed_more : {E : Type 0} (flags : ℕ) (new : E) (slots : List E) (i : ℕ) (slot d : E) → i < length slots → slot ≡ (if is_refreshed flags i then new else slice_index_or slots i d) → refreshed_slots flags new (take i slots) ++ slot ∷ [] ≡ refreshed_slots flags new (take (i + 1) slots)
refreshed_more {E} flags new slots i slot d inside chosen =
    let choose : ℕ × E → E = λ old. if is_refreshed flags old.0 then new else old.1 in
    let front = take i slots in
    let next = slice_index_or slots i d in
    let last : 0 + length front ≡ i = omega (arith, length-take-le i slots (omega arith)) in
    let joined : refreshed_slots flags new (front ++ next ∷ []) ≡ refreshed_slots flags new front ++ (if is_refreshed flags i then new else next) ∷ [] =
    ap (map choose) (enumerate_more 0 i front next last) ∙ map-append choose (enumerate_from 0 front) ((i, next) ∷ []) in
    sym (ap (refreshed_slots flags new) (take_more slots i d inside)
    ∙ (joined
    ∙ ap (λ x. refreshed_slots flags new front ++ x ∷ []) (sym chosen)))

-- one slot more of those that are seen so
pub refreshed_more_seen : {E F : Type 0} (view : E → F) (flags : ℕ) (new : F) (slots done : List E) (i : ℕ) (slot d : E) → i < length slots → map view done ≡ refreshed_slots flags new (take i (map view slots)) → view slot ≡ (if is_refreshed flags i then new else view (slice_index_or slots i d)) → map view (done ++ slot ∷ []) ≡ refreshed_slots flags new (take (i + 1) (map view slots))
refreshed_more_seen view flags new slots done i slot d inside before chosen =
    map-append view done (slot ∷ [])
    ∙ (ap (λ xs. xs ++ view slot ∷ []) before
    ∙ refreshed_more flags new (map view slots) i (view slot) (view d)
    (subst (λ (n : ℕ). i < n) (sym (length-map slots view)) inside)
    (chosen ∙ ap (λ x. if is_refreshed flags i then new else x) (sym (get_or-map view slots i d (view d) inside))))
