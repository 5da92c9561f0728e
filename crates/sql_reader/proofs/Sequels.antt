-- A long production is read in parts.
use Rattle.std.proofs.Common.{◌≡◌, Bool, List, refl, ap, ◌∙◌}
use Rattle.std.proofs.Math.Path.{fun_ext}
use Rattle.sql_words.specs.declared.token.Key.{Key}
use Rattle.sql_words.specs.Symbols.{Symbol}
use Rattle.sql_tree.specs.declared.statement.Statement.{Statement}
use Rattle.sql_tree.specs.Modes.{is_windowed}
use Rattle.sql_tree.specs.Symbols.{name_of}
use Rattle.sql_phrases.specs.Readings.{Read, after, one, both, nothing, mark, the}
use Rattle.sql_phrases.specs.Classes.{is_key}
use Rattle.sql_phrases.specs.Readers.{Reads, word, inside, listed, new_column, literal, alters, new_part, sorted_by, creates_projection, select_list, sources, where_clause, group_by, having, order_by, limit, queries}
use Rattle.sql_reader.specs.declared.alterations.Added.{Added}
use Rattle.sql_reader.specs.declared.creations.Selection.{Selection}
use Rattle.sql_reader.specs.declared.queries.Kept.{Kept}
use Rattle.sql_reader.specs.declared.queries.Shape.{Shape}
use Rattle.sql_reader.specs.Parts.{projects, adds, keeps, shapes}

after_after : {X Y V : Type 0} (r : Read Symbol X) (f : X → Reads Y) (k : Y → Reads V) → after r (λ x rest. after (f x rest) k) ≡ after (after r f) k
after_after (Read.Took x rest) f k = refl
after_after (Read.Stopped rest) f k = refl

both_both : {X Y V : Type 0} (a : Reads X) (f : X → Reads Y) (k : Y → Reads V) → both a (λ x. both (f x) k) ≡ both (both a f) k
unfolding both
both_both a f k = fun_ext (λ ts. after_after (a ts) f k)

-- what goes on with k is a part that ends there, and then k
ends : {V X : Type 0} (v : X) (k : X → Reads V) → k v ≡ both (nothing v) k
unfolding both nothing
ends v k = refl

goes_on : {X Y V : Type 0} (a : Reads X) (f : X → Reads Y) {f' : X → Reads V} (k : Y → Reads V) → ((x : X) → f' x ≡ both (f x) k) → both a f' ≡ both (both a f) k
goes_on a f k h = ap (both a) (fun_ext h) ∙ both_both a f k

marked : {Y V : Type 0} (p : Symbol → Bool) (b : Reads Y) {b' : Reads V} (k : Y → Reads V) → b' ≡ both b k → mark p b' ≡ both (mark p b) k
unfolding mark
marked p b k h = goes_on (one (the p)) (λ u. b) k (λ u. h)

behind : {X V : Type 0} (a : Reads X) {f g : X → Reads V} → ((x : X) → f x ≡ g x) → both a f ≡ both a g
behind a h = ap (both a) (fun_ext h)

shaped : {V : Type 0} (windowed : Bool) (k : Shape → Reads V) → both (group_by windowed) (λ g. both (having windowed) (λ h. both order_by (λ o. both limit (λ l. k (record { group = g; having = h; order = o; limit = l }))))) ≡ both (shapes windowed) k
unfolding shapes
shaped windowed k = goes_on (group_by windowed) _ k (λ g. goes_on (having windowed) _ k (λ h. goes_on order_by _ k (λ o. goes_on limit _ k (λ l. ends _ k))))

selected : {V : Type 0} (k : Selection → Reads V) → word Key.As (word Key.Select (both (listed (one name_of)) (λ ns. word Key.From (both (one name_of) (λ t. both sorted_by (λ o. k (record { selected = ns; table = t; sort = o }))))))) ≡ both projects k
unfolding projects
selected k = marked (is_key Key.As) _ k (marked (is_key Key.Select) _ k (goes_on (listed (one name_of)) _ k (λ ns. marked (is_key Key.From) _ k (goes_on (one name_of) _ k (λ t. goes_on sorted_by _ k (λ o. ends _ k))))))

added : {V : Type 0} (k : Added → Reads V) → word Key.Add (word Key.Column (both new_column (λ c. word Key.Default (both literal (λ d. k (record { column = c; default = d })))))) ≡ both adds k
unfolding adds
added k = marked (is_key Key.Add) _ k (marked (is_key Key.Column) _ k (goes_on new_column _ k (λ c. marked (is_key Key.Default) _ k (goes_on literal _ k (λ d. ends _ k)))))

kept_whole : {V : Type 0} (k : Kept → Reads V) → word Key.From (both sources (λ ss. both where_clause (λ w. k (record { sources = ss; keep = w })))) ≡ both keeps k
unfolding keeps
kept_whole k = marked (is_key Key.From) _ k (goes_on sources _ k (λ ss. goes_on where_clause _ k (λ w. ends _ k)))

pub queries_by_parts : (ts : List Symbol) → queries ts ≡ both select_list (λ is. both keeps (λ r. both (shapes (is_windowed is)) (λ s. nothing (record { items = is; sources = r.sources; keep = r.keep; group = s.group; having = s.having; order = s.order; limit = s.limit })))) ts
unfolding queries
queries_by_parts ts = ap (λ r. r ts) (behind select_list (λ is. ap (mark (is_key Key.From)) (behind sources (λ ss. behind where_clause (λ w. shaped (is_windowed is) (λ (s : Shape). nothing (record { items = is; sources = ss; keep = w; group = s.group; having = s.having; order = s.order; limit = s.limit }))))) ∙ kept_whole (λ (r : Kept). both (shapes (is_windowed is)) (λ s. nothing (record { items = is; sources = r.sources; keep = r.keep; group = s.group; having = s.having; order = s.order; limit = s.limit })))))

pub projection_by_parts : (ts : List Symbol) → creates_projection ts ≡ word Key.Projection (both (one name_of) (λ p. both (inside (listed new_part)) (λ ps. both projects (λ s. nothing (Statement.CreateProjection (record { name = p; parts = ps; selected = s.selected; table = s.table; sort = s.sort })))))) ts
unfolding creates_projection
projection_by_parts ts = ap (λ r. r ts) (ap (mark (is_key Key.Projection)) (behind (one name_of) (λ p. behind (inside (listed new_part)) (λ ps. selected (λ (s : Selection). nothing (Statement.CreateProjection (record { name = p; parts = ps; selected = s.selected; table = s.table; sort = s.sort })))))))

pub alters_by_parts : (ts : List Symbol) → alters ts ≡ word Key.Alter (word Key.Table (both (one name_of) (λ t. both adds (λ a. nothing (Statement.AddColumn (record { table = t; column = a.column; default = a.default })))))) ts
unfolding alters
alters_by_parts ts = ap (λ r. r ts) (ap (mark (is_key Key.Alter)) (ap (mark (is_key Key.Table)) (behind (one name_of) (λ t. added (λ (a : Added). nothing (Statement.AddColumn (record { table = t; column = a.column; default = a.default })))))))
