-- What is read of a text.
use Rattle.std.proofs.Common.{◌≡◌, ℕ, List, map, ap, sym, ◌∙◌}
use Rattle.std.specs.Prelude.{Result, Ok, Err}
use Rattle.abc_tokens.specs.ReadLine.{read_line}
use Rattle.abc_tokens.specs.declared.kinds.Token.{Token}
use Rattle.abc_tokens.specs.declared.kinds.TokenFault.{TokenFault}
use Rattle.abc_expressions.specs.declared.lexemes.Lexeme.{Lexeme}
use Rattle.abc_expressions.specs.Lexemes.{seen}
use Rattle.abc_outline.specs.Rows.{all_seen, read_of}

pub read_found : (text : List ℕ) (ts : List Token) (ls : List Lexeme) → read_line text ≡ Ok ts → ls ≡ map (seen text) ts → ◌≡◌ {A = Result (List Lexeme) TokenFault} (Ok ls) (read_of text)
unfolding read_of
read_found text ts ls e l = ap Ok l ∙ sym (ap (all_seen text) e)

pub read_fault : (text : List ℕ) (fault : TokenFault) → read_line text ≡ Err fault → ◌≡◌ {A = Result (List Lexeme) TokenFault} (Err fault) (read_of text)
unfolding read_of
read_fault text fault e = sym (ap (all_seen text) e)
