-- `put_listing` puts the text that the definition says.
use Rattle.b3d_list_output.proofs.ListLaws.{listing_laws}
use borrow.Author.Rules.{rules}
use Rattle.b3d_list_output.proofs.put_listing.Goals as goal

pub returns-then-file-gt-MOST_LISTED : goal.returns-then-file-gt-MOST_LISTED
returns-then-file-gt-MOST_LISTED c = search (listing_laws, rules)

pub put_nodes-requires : goal.put_nodes-requires
put_nodes-requires c = search (listing_laws, rules)

pub returns-in-Err : goal.returns-in-Err
returns-in-Err c = search (listing_laws, rules)

pub returns-in-Ok : goal.returns-in-Ok
returns-in-Ok c = search (listing_laws, rules)
