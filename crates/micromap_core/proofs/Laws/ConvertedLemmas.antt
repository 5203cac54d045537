-- For proofs: the pairs of a map whose keys are converted into texts, or from texts. `bytes_of` shows a key's bytes.
use Rattle.std.proofs.Common.{◌≡◌, ℕ, [], ◌∷◌, ◌∙◌, ap, bytes_eq, map, refl, subst, sym, zip, List}
use Rattle.std.specs.{List.AllZip, List.IsDistinct, Map.keys_of, Map.values_of, Ordering.on}
use Rattle.std.proofs.lemmas.Slice.Zip.{AllZip-map}
use Rattle.micromap_core.specs.{Pairs.IsUnique, Texts.items_by, Texts.texts_by}
use Rattle.micromap_core.proofs.{Laws.TextLaws.keys_texts, Laws.Views.distinct-from_map}
use Rattle.micromap_walk.proofs.Laws.ZipLemmas.{zip_columns}

module _ {K : Type 0} (bytes_of : K → List ℕ) where
  seen_again : (texts : List (List ℕ)) (keys : List K) → AllZip (λ text k. bytes_of k ≡ text) texts keys → map bytes_of keys ≡ texts
  seen_again [] [] given = refl
  seen_again [] (k ∷ keys) given = absurd given
  seen_again (text ∷ texts) [] given = absurd given
  seen_again (text ∷ texts) (k ∷ keys) given = ap (λ bytes. bytes ∷ map bytes_of keys) given.0
      ∙ ap (λ l. text ∷ l) (seen_again texts keys given.1)

module _ {K V : Type 0} (bytes_of : K → List ℕ) where
  zip_seen : (pairs : List (K × V)) → zip (map bytes_of (keys_of pairs)) (values_of pairs) ≡ texts_by bytes_of (λ v. v) pairs
  unfolding texts_by
  zip_seen [] = refl
  zip_seen (p ∷ pairs) = ap (λ l. (bytes_of p.0, p.1) ∷ l) (zip_seen pairs)

  -- each key is converted into its bytes
  pub into_texts : (pairs : List (K × V)) (texts : List (List ℕ × V)) → AllZip (λ k text. text ≡ bytes_of k) (keys_of pairs) (keys_of texts)
      → values_of texts ≡ values_of pairs → texts ≡ texts_by bytes_of (λ v. v) pairs
  into_texts pairs texts given same = sym (zip_columns texts)
      ∙ ap (λ ks. zip ks (values_of texts)) (AllZip-map bytes_of (keys_of pairs) (keys_of texts) given)
      ∙ ap (λ vs. zip (map bytes_of (keys_of pairs)) vs) same ∙ zip_seen pairs

  -- each text is converted into a key with these bytes
  pub from_texts : (texts : List (List ℕ × V)) (pairs : List (K × V)) → AllZip (λ text k. bytes_of k ≡ text) (keys_of texts) (keys_of pairs)
      → values_of pairs ≡ values_of texts → texts_by bytes_of (λ v. v) pairs ≡ texts
  from_texts texts pairs given same = sym (zip_seen pairs)
      ∙ ap (λ ks. zip ks (values_of pairs)) (seen_again bytes_of (keys_of texts) (keys_of pairs) given)
      ∙ ap (λ vs. zip (keys_of texts) vs) same ∙ zip_columns texts

  -- keys are distinct if their bytes are
  pub unique_from_texts : (pairs : List (K × V)) → IsUnique bytes_eq (texts_by bytes_of (λ v. v) pairs)
      → IsUnique (on bytes_of bytes_eq) pairs
  unfolding items_by
  unique_from_texts pairs unique = distinct-from_map bytes_of bytes_eq (keys_of pairs)
      (subst (IsDistinct bytes_eq) (keys_texts bytes_of (λ v. v) pairs) unique)
