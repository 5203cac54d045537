-- For proofs: a list of distinct items, or the list of their clones, is put into a set item by item. Each item is new,
-- and goes last.
use Rattle.std.proofs.Common.{◌≡◌, ℕ, All, ◌<◌, ◌≤◌, Bool, true, false, not, ◌||◌, List, [], ◌∷◌, ◌++◌, filter, length, get_or}
use Rattle.std.proofs.Common.{IsTrue, refl, ap, sym, subst, ◌∙◌, arith}
use Rattle.std.specs.{Cmp.IsEquivalence, List.AllZip, List.IsDistinct, Map.keys_of, Set.is_member, Set.ClonesAreEqual}
use Rattle.std.proofs.{Math.Seq.get_or-append_seam, lemmas.List.Filters.length-filter_both}
use Rattle.std.proofs.lemmas.List.Elements.{AllZip-push, length_all_zip}
use Rattle.micromap_core.proofs.{Laws.DistinctLemmas.new_behind, Laws.KeyedLemmas.built_in_turn}
use Rattle.micromap_walk.proofs.Laws.Walked.{walk_goes_on, walk_seam, walk_within, Walked}
use Rattle.micromap.specs.{Extend.put_all_items, Items.put_item, Items.item_fits, Items.IsItems, SetStream.entries_of}
use Rattle.micromap.proofs.{Laws.ItemLemmas.keys_put_all_items, Laws.SetLaws.put_item_new, Laws.SetStreamLemmas.keys_of-entries}

-- items that pass a test are no more than a set has room for
pub length-passing : {T : Type 0} {eq : T → T → Bool} {N : ℕ} {xs ys : List T} → IsItems eq N xs → ys ≡ xs
    → (test : T → Bool) → length (filter test ys) ≤ N
length-passing {ys = ys} items is test =
    omega (arith, items.bounded, ap length is, length-filter_both test (λ x. not (test x)) (λ x. refl) ys)

module _ {T : Type 0} {eq : T → T → Bool} (laws : IsEquivalence eq) where
  -- a set that is built from distinct items has them in their order
  pub added_all : (xs : List T) → IsDistinct eq xs → put_all_items eq [] xs ≡ xs
  added_all xs distinct =
      let back = keys_of-entries xs in
      ap (put_all_items eq []) (sym back) ∙ sym (keys_put_all_items eq [] (entries_of xs))
      ∙ ap keys_of (built_in_turn laws [] (entries_of xs) (subst (IsDistinct eq) (sym back) distinct)) ∙ back

  module _ {C : T → T → Type 0} (equal : ClonesAreEqual eq C) where
    -- an item has an equal one among the clones where an equal item has one among their sources
    clones_alike : (xs ys : List T) (q r : T) → AllZip C xs ys → eq q r ≡ true → is_member eq ys r ≡ is_member eq xs q
    clones_alike [] [] q r clones same = refl
    clones_alike [] (y ∷ ys) q r clones same = absurd clones
    clones_alike (x ∷ xs) [] q r clones same = absurd clones
    clones_alike (x ∷ xs) (y ∷ ys) q r clones same =
        let here : eq r y ≡ eq q x = laws.symm r y ∙ sym (laws.congr x y r (equal x y clones.0))
        ∙ laws.symm x r ∙ sym (laws.congr q r x same) in
        (λ i. here i || clones_alike xs ys q r clones.1 same i)

module _ {T : Type 0} {C : T → T → Type 0} {members left set : List T}
    (walked : Walked members left (λ before. AllZip C before set)) {x : T} {rest : List T} (next : left ≡ x ∷ rest) where
  -- what holds of each member holds of the next
  pub next_holds : (P : T → Type 0) → All P members → P x
  next_holds P all = subst P (ap (λ l. get_or l (length walked.before) x) (walk_seam walked next)
      ∙ get_or-append_seam walked.before x rest x) (all (length walked.before) x (walk_within walked next))

  -- there is room for its clone, which is new and goes last
  pub clone_fits : (eq : T → T → Bool) (N : ℕ) (y : T) → length members ≤ N → IsTrue (item_fits eq N set y)
  clone_fits eq N y bounded =
      let room : length set < N = omega (arith, bounded, walk_within walked next, length_all_zip C walked.before set walked.holds) in
      grind (arith, room)

  pub clone_goes_on : {eq : T → T → Bool} → IsEquivalence eq → ClonesAreEqual eq C → IsDistinct eq members
      → {y : T} {new : List T} → C x y → new ≡ put_item eq set y → Walked members rest (λ before. AllZip C before new)
  clone_goes_on {eq} laws equal distinct {y} clone added =
      let missing : is_member eq set y ≡ false = clones_alike laws equal walked.before set x y walked.holds (equal x y clone)
      ∙ new_behind laws walked.before x rest (subst (IsDistinct eq) (walk_seam walked next) distinct) in
      walk_goes_on walked next (subst (AllZip C (walked.before ++ x ∷ [])) (sym (added ∙ put_item_new eq set y missing))
      (AllZip-push C walked.before set x y walked.holds clone))
