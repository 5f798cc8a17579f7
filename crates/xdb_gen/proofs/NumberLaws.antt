-- Numbered lines, and lines that join them.
use Rattle.std.proofs.Common.{◌≡◌, ℕ, ◌+◌, List, [], ◌∷◌, ◌++◌, length, map, sym, ap, ◌∙◌, arith}
use Rattle.std.proofs.lemmas.List.{map-append, length-map}
use Rattle.xdb_gen.specs.Said.{Said, line, numbered_from, said_in, AreNumbered}
use Rattle.xdb_plain.specs.declared.script.Line.{Line}

pub numbered-append : (number : ℕ) (ss ts : List Said) → numbered_from number (ss ++ ts) ≡ numbered_from number ss ++ numbered_from (number + length ss) ts
numbered-append number [] ts = ap (λ n. numbered_from n ts) (omega arith)
numbered-append number (s ∷ ss) ts =
    ap (λ ls. line number s ∷ ls) (numbered-append (number + 1) ss ts ∙ ap (λ n. numbered_from (number + 1) ss ++ numbered_from n ts) (omega arith))

pub are_numbered-push : (lines : List Line) (l : Line) → AreNumbered lines → l.number ≡ length lines + 1 → AreNumbered (lines ++ l ∷ [])
are_numbered-push lines l h number =
    ap (λ ls. ls ++ l ∷ []) h
    ∙ ap (λ n. numbered_from 1 (map said_in lines) ++ line n (said_in l) ∷ []) place
    ∙ sym (numbered-append 1 (map said_in lines) (said_in l ∷ []))
    ∙ ap (numbered_from 1) (sym (map-append said_in lines (l ∷ [])))
  where
    place : l.number ≡ 1 + length (map said_in lines)
    place = omega (arith, length-map lines said_in)
